use Rattle.std.proofs.Common.{ℕ, List, length, subst}
use Rattle.levels.specs.Rounds.{EdgesBelow}
use Rattle.levels.proofs.Rounds.{edges_below}
use Rattle.levels.proofs.graph.Graph.len.Goals as goal

pub returns-clause-edges_within : goal.returns-clause-edges_within
returns-clause-edges_within c = subst (λ (g : List (List ℕ)). EdgesBelow (length g) g) c.self.view_is (edges_below _ c.self.invariant)
