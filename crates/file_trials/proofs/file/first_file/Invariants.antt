use Rattle.std.proofs.Common.{◌≡◌, ◌+◌, length}
use Rattle.file_trials.proofs.file.first_file.Given as goal

abbrev pub invariant-loop-line : goal.invariant-loop-line
invariant-loop-line l = l.len + length l.line-iterator ≡ length l.input
