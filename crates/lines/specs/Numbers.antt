-- The text of a number: a decimal of 1 to 19 digits without a leading zero, after a minus where it is below 0.
use Rattle.std.specs.Prelude.{◌≡◌, ℕ, suc, ◌^◌, ◌<◌, ◌≤◌, List, length, ℤ, pos, negsuc, decimal, slice_index_or}
use Rattle.std.specs.Str.Parse.{AllDigits}

-- a number of at most 19 digits
abbrev pub Short : ℕ → Type 0
Short n = n < 10 ^ 19

abbrev pub ShortZ : ℤ → Type 0
ShortZ (pos n) = Short n
ShortZ (negsuc n) = Short (suc n)

-- 1 to 19 digits, the first of several no zero
pub record NumberText (ds : List ℕ) : Type 0 where
  pub digits : AllDigits 10 ds
  pub some : 0 < length ds
  pub few : length ds ≤ 19
  pub no_leading_zero : slice_index_or ds 0 0 ≡ 48 → length ds ≡ 1

-- these texts are just the decimals of the short numbers
pub record NumbersAreDigits : Type 0 where
  pub reads : (ds : List ℕ) → NumberText ds → (n : ℕ) × (Short n × (ds ≡ decimal n))
  pub writes : (n : ℕ) → Short n → NumberText (decimal n)
