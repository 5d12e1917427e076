-- Nodes in the order of their levels.
use Rattle.std.specs.Prelude.{◌≡◌, ℕ, ◌<◌, ◌⊎◌, List, length, ◌==◌, Contains, filter, slice_index}
use Rattle.std.specs.List.{AllPairs, flat_map, range_with_len}

-- a stands before b: by level, then by number
abbrev pub Earlier : List ℕ → ℕ → ℕ → Type 0
Earlier xs a b = (slice_index xs a < slice_index xs b) ⊎ ((slice_index xs a ≡ slice_index xs b) × (a < b))

-- every node is earlier than all after it
abbrev pub Ascending : List ℕ → List ℕ → Type 0
Ascending xs ys = AllPairs (Earlier xs) ys

-- all nodes, which have the levels xs, by level
pub record Ordered (xs ys : List ℕ) : Type 0 where
  pub ascending : Ascending xs ys
  pub all : (b : ℕ) → b < length xs → Contains ys b
  pub only : (b : ℕ) → Contains ys b → b < length xs

-- the nodes of level l, by number
abbrev pub at_level : List ℕ → ℕ → List ℕ
at_level xs l = filter (λ i. slice_index xs i == l) (range_with_len 0 (length xs))

-- the nodes of the levels below m, by level
abbrev pub up_to : List ℕ → ℕ → List ℕ
up_to xs m = flat_map (at_level xs) (range_with_len 0 m)

abbrev pub by_level : List ℕ → List ℕ
by_level xs = up_to xs (length xs)
