-- What is read of a frozen network.
use Rattle.std.specs.Prelude.{ℕ, ◌<◌, ◌≤◌, length, Some, None, Option}
use Rattle.levels.specs.Chains.{Level}
use Rattle.network.specs.Tables.{Parts}
use Rattle.precedence.specs.Direct.{Directly}

-- the level of a reaction: the number of reactions before it in the longest chain to it; none where there is no such reaction
abbrev pub Leveled : Parts → ℕ → Option ℕ → Type 0
Leveled p x None = length p.reactions ≤ x
Leveled p x (Some n) = (x < length p.reactions) × Level (Directly p) x n
