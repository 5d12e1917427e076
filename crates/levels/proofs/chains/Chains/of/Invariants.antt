use Rattle.std.proofs.Common.{length, vec_items}
use Rattle.levels.specs.Rounds.{Longest}
use Rattle.levels.proofs.chains.Chains.of.Given as goal

abbrev pub invariant-loop : goal.invariant-loop
invariant-loop l = Longest l.graph (length l.graph) l.counter (vec_items l.numbers)
