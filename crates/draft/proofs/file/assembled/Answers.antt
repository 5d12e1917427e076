use Rattle.std.proofs.Common.{rules}
use Rattle.draft.specs.Drafting.{done, next}
use Rattle.draft.proofs.file.assembled.Goals as goal

pub loop-line-preserved : goal.loop-line-preserved
loop-line-preserved c end more = c.loop-line.invariant end (next c.in-Some.line.now _ (search rules) c.in_ok-pass.ensures more)

pub returns : goal.returns
returns c = record { start = c.new-draft.result; end = c.loop-line.draft; fresh = c.new-draft.ensures; lines = c.loop-line.invariant c.loop-line.draft (let e = c.in-None.ensures.steps.0 in rw e done); left = c.into_assembly.ensures }
