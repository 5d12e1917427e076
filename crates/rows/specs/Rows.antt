-- Rows of a table by their keys.
use Rattle.std.specs.Prelude.{ℕ, List, map, filter, ◌==◌}
use Rattle.std.specs.List.{range_with_len}

-- the rows of each key below n
abbrev pub by_key : {A : Type 0} → (A → ℕ) → ℕ → List A → List (List A)
by_key key n rows = map (λ k. filter (λ row. key row == k) rows) (range_with_len 0 n)
