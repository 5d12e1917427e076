-- The text of a line, and where its fields stand in it.
use Rattle.std.specs.Prelude.{ℕ, ◌+◌, List, [], ◌∷◌, ◌++◌, length, ℤ}
use Rattle.std.specs.Fmt.{signed_decimal}
use Rattle.lines.specs.Marks.{letters}
use Rattle.lines.specs.declared.mark.Mark.{Mark}

-- each field after one space, then a line feed
abbrev pub tail : List ℤ → List ℕ
tail [] = 10 ∷ []
tail (z ∷ zs) = 32 ∷ (signed_decimal z ++ tail zs)

-- a mark, then its fields
abbrev pub text : Mark → List ℤ → List ℕ
text m zs = letters m ++ tail zs

-- a field: its part of the line, the place where that begins, and the number that it writes
pub record Entry : Type 0 where
  pub bytes : List ℕ
  pub place : ℕ
  pub number : ℤ

-- the fields that write these numbers, one after the other, the first after a space at this place
abbrev pub entries : ℕ → List ℤ → List Entry
entries at [] = []
entries at (z ∷ zs) = record { bytes = signed_decimal z; place = at + 1; number = z } ∷ entries (at + 1 + length (signed_decimal z)) zs
