use Rattle.std.proofs.Common.{length, vec_items}
use Rattle.levels.proofs.Back.{Walk}
use Rattle.levels.proofs.chains.Chains.circle_to.Given as goal

abbrev pub invariant-loop : goal.invariant-loop
invariant-loop l = Walk l.self.graph (length l.self.graph) l.counter (vec_items l.self.numbers) (vec_items l.path) l.node
