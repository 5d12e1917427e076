-- An input and its first line.
use Rattle.std.specs.Prelude.{◌≡◌, ℕ, ◌+◌, ◌-◌, ◌<◌, List, [], ◌++◌, length, Option, MatchOption, ◌≢◌, slice_index}
use denote.Ref.{Bor}

-- line is the first line of input, and rest is what follows it
pub record FirstLine (input line rest : List ℕ) : Type 0 where
  pub whole : input ≡ line ++ rest
  pub some : 0 < length line
  -- no line feed stands before the last byte
  pub one_feed : (k : ℕ) → k + 1 < length line → slice_index line k ≢ 10
  -- a line without a line feed is the last
  pub ended : (slice_index line (length line - 1) ≢ 10) → rest ≡ []

-- the next line of what is left, or none where nothing is left
abbrev pub NextLine : List ℕ → Option (Bor (List ℕ)) → List ℕ → Type 0
NextLine left line after = MatchOption line ((left ≡ []) × (after ≡ [])) (λ l. FirstLine left l.now after)
