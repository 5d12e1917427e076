-- What is answered of the precedence in a network.
use Rattle.std.specs.Prelude.{◌≡◌, ℕ, ◌<◌, List, map, length, Ok, Err, vec_items, Result, slice_index}
use Rattle.std.specs.List.{range_with_len}
use Rattle.levels.specs.Chains.{Edge, Circle, Level, Round, longest}
use Rattle.levels.specs.Ordered.{Ordered, by_level}
use Rattle.network.specs.Tables.{Parts}
use Rattle.precedence.specs.Direct.{Directly}
use Rattle.precedence.specs.Indexes.{Indexes}
use Rattle.precedence.specs.Tests.{graph}
use Rattle.precedence.specs.declared.precedence.Precedence.{Precedence}
use Rattle.precedence.specs.declared.error.PrecedenceError.{PrecedenceError}
use Rattle.precedence.specs.declared.error.PrecedenceError.TheVariants as error

-- the longest chains to the reactions: their levels, where there is no circle
abbrev pub levels_of : Parts → List ℕ
levels_of p = map (longest (graph p) (length p.reactions)) (range_with_len 0 (length p.reactions))

-- all reactions by level, and those of one level by number
abbrev pub order_of : Parts → List ℕ
order_of p = by_level (levels_of p)

-- what is held of the precedence in a network that has no circle
pub record Holds (p : Parts) (x : Precedence) : Type 0 where
  pub index : Indexes p x.index
  pub predecessors : map vec_items (vec_items x.predecessors) ≡ graph p
  pub levels : vec_items x.levels ≡ levels_of p
  pub order : vec_items x.order ≡ order_of p
  pub no_circle : Circle (Directly p) → ⊥

-- and what that means
pub record Means (p : Parts) : Type 0 where
  pub direct : (a b : ℕ) → (Edge (graph p) a b → Directly p a b) × (Directly p a b → Edge (graph p) a b)
  pub level : (x : ℕ) → x < length p.reactions → Level (Directly p) x (slice_index (levels_of p) x)
  -- what precedes a reaction has a lower level
  pub rises : (a b : ℕ) → Directly p a b → slice_index (levels_of p) a < slice_index (levels_of p) b
  pub order : Ordered (levels_of p) (order_of p)

abbrev pub Answers : Parts → Result Precedence PrecedenceError → Type 0
Answers p (Ok x) = Holds p x × Means p
Answers p (Err (error.Circle v)) = Round (Directly p) (vec_items v)
Answers p (Err (error.NoMemory e)) = Unit {0}
