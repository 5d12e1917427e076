-- What is answered of a graph.
use Rattle.std.specs.Prelude.{◌≡◌, ℕ, ◌<◌, List, length, Ok, Err, vec_items, Result, slice_index}
use Rattle.levels.specs.Chains.{Edge, Circle, Level, Round}
use Rattle.levels.specs.Ordered.{Ordered, by_level}
use Rattle.levels.specs.Rounds.{EdgesBelow}
use Rattle.levels.specs.declared.error.LevelsError.{LevelsError}
use Rattle.levels.specs.declared.error.LevelsError.TheVariants as error
use Rattle.levels.specs.declared.level.Levelled.{Levelled}

-- the level of each node, and no circle
pub record Levels (g : List (List ℕ)) (xs : List ℕ) : Type 0 where
  pub size : length xs ≡ length g
  pub each : (b : ℕ) → b < length g → Level (Edge g) b (slice_index xs b)
  pub no_circle : Circle (Edge g) → ⊥

abbrev pub Answers : List (List ℕ) → Result Levelled LevelsError → Type 0
Answers g (Ok l) = Levels g (vec_items l.levels) × Ordered (vec_items l.levels) (vec_items l.order) × (vec_items l.order ≡ by_level (vec_items l.levels))
Answers g (Err error.NoNode) = EdgesBelow (length g) g → ⊥
Answers g (Err (error.Circle v)) = Round (Edge g) (vec_items v)
Answers g (Err (error.NoMemory e)) = Unit {0}
