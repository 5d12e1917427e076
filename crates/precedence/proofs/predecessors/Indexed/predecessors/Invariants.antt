use Rattle.std.proofs.Common.{◌≡◌, map, vec_items}
use Rattle.std.specs.List.{range_with_len}
use Rattle.precedence.specs.Indexes.{before}
use Rattle.precedence.proofs.predecessors.Indexed.predecessors.Given as goal

abbrev pub invariant-loop-b : goal.invariant-loop-b
invariant-loop-b l = map vec_items (vec_items l.graph) ≡ map (before l.self.index.now l.self.reactions.now) (range_with_len 0 l.b)
