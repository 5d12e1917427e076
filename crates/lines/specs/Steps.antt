-- What the steps inside the reader promise each other; the contract of `read` cites none of it.
use Rattle.std.specs.Prelude.{◌≡◌, ◌≢◌, ℕ, zero, suc, ◌+◌, ◌^◌, ◌≤◌, ◌<ℤ◌, List, [], ◌∷◌, ◌++◌, map, length, take, drop, ℤ, pos, decimal, slice_index, slice_index_or, unsigned_abs, Ok, Result}
use Rattle.std.specs.Str.Parse.{AllDigits}
use Rattle.std.specs.Fmt.{signed_decimal}
use Rattle.std.specs.List.{AllByRecursion}
use Rattle.lines.specs.Fields.{Written, Within, Each}
use Rattle.lines.specs.Marks.{Begins}
use Rattle.lines.specs.Numbers.{Short, ShortZ}
use Rattle.lines.specs.Reading.{Reading}
use Rattle.lines.specs.Sections.{MayCome}
use Rattle.lines.specs.Texts.{Entry, entries, tail}
use Rattle.lines.specs.declared.cursor.Cursor.{Cursor}
use Rattle.lines.specs.declared.cursor.Token.{Token}
use Rattle.lines.specs.declared.kind.Kind.{Kind}
use Rattle.lines.specs.declared.mark.Mark.{Mark}
use Rattle.lines.specs.declared.records.Field.{Field}
use Rattle.lines.specs.declared.records.Record.{Record}
use Rattle.lines.specs.declared.section.Section.{Section}
use Rattle.refusals.specs.declared.refusal.Refusal.{Refusal}
use Rattle.refusals.specs.declared.refusal.Refusal.TheVariants.{Malformed, OutOfRange}

-- a text begins with no digit
abbrev pub Stops : List ℕ → Type 0
Stops bs = 48 ≤ slice_index bs 0 → slice_index bs 0 ≤ 57 → ⊥

-- the longest run of digits in front of s has n digits
pub record Run (s : List ℕ) (n : ℕ) : Type 0 where
  pub within : n ≤ length s
  pub digits : AllDigits 10 (take n s)
  pub stops : Stops (drop n s)

-- a number stands in front of s, and takes len bytes
pub record NumberAt (s : List ℕ) (z : ℤ) (len : ℕ) : Type 0 where
  pub short : ShortZ z
  pub text : take len s ≡ signed_decimal z
  pub stops : Stops (drop len s)
  pub within : len ≤ length s

-- no number of at most 19 digits stands in front
abbrev pub NoNatural : List ℕ → Type 0
NoNatural s = (n : ℕ) (t : List ℕ) → Short n → Stops t → s ≢ decimal n ++ t

abbrev pub NoInteger : List ℕ → Type 0
NoInteger s = (z : ℤ) (t : List ℕ) → ShortZ z → Stops t → s ≢ signed_decimal z ++ t

-- a line begins with a mark
pub record Front (line : List ℕ) (m : Mark) : Type 0 where
  pub long : 2 ≤ length line
  pub begins : Begins line m

-- what is left of a line
abbrev pub left : Cursor → List ℕ
left c = drop c.place c.line.now

-- a token's part lies in the line, and its number has at most 19 digits
pub record Inside (line : List ℕ) (t : Token) : Type 0 where
  pub part : t.place + t.len ≤ length line
  pub short : t.number <ℤ pos (10 ^ 19)

-- a token with its part of the line
abbrev pub entry : List ℕ → Token → Entry
entry line t = record { bytes = take t.len (drop t.place line); place = t.place; number = t.number }

abbrev pub numbers : List Token → List ℤ
numbers ts = map (λ t. t.number) ts

-- a field of this kind stands in front of what was left, after a space, and ends where the digits end
pub record Takes (old : Cursor) (k : Kind) (t : Token) (new : Cursor) : Type 0 where
  pub written : Written k t.number
  pub bytes : take t.len (drop t.place old.line.now) ≡ signed_decimal t.number
  pub place : t.place ≡ old.place + 1
  pub split : left old ≡ 32 ∷ (signed_decimal t.number ++ left new)
  pub stops : Stops (left new)
  pub line : new.line.now ≡ old.line.now
  pub next : new.place ≡ old.place + 1 + length (signed_decimal t.number)
  pub inside : Inside old.line.now t

abbrev pub NoField : List ℕ → Kind → Type 0
NoField s k = (z : ℤ) (t : List ℕ) → Written k z → Stops t → s ≢ 32 ∷ (signed_decimal z ++ t)

-- these are the fields of these kinds from a place on, in order, and nothing else follows
pub record Row (line : List ℕ) (at : ℕ) (ks : List Kind) (ts : List Token) : Type 0 where
  pub whole : drop at line ≡ tail (numbers ts)
  pub written : Each Written ks (numbers ts)
  pub placed : map (entry line) ts ≡ entries at (numbers ts)
  pub inside : AllByRecursion (Inside line) ts

abbrev pub NoRow : List ℕ → List Kind → Type 0
NoRow s ks = (zs : List ℤ) → Each Written ks zs → s ≢ tail zs

-- what an array of tokens is read as past its end
abbrev pub blank : Token
blank = record { place = 0; len = 0; number = pos 0 }

-- the first tokens of an array, by their places in it
abbrev pub listed_from : ℕ → ℕ → List Token → List Token
listed_from i zero ts = []
listed_from i (suc n) ts = slice_index_or ts i blank ∷ listed_from (i + 1) n ts

abbrev pub listed : ℕ → List Token → List Token
listed n ts = listed_from 0 n ts

-- the fields after a line's mark, with numbers in the ranges of their kinds
pub record InRanges (line : List ℕ) (ks : List Kind) (ts : List Token) : Type 0 where
  pub row : Row line 2 ks ts
  pub within : Each Within ks (numbers ts)

-- why there are none
pub data NotInRanges (line : List ℕ) (ks : List Kind) : Refusal → Type 0 where
  malformed : NoRow (drop 2 line) ks → NotInRanges line ks Malformed
  out_of_range : (zs : List ℤ) → drop 2 line ≡ tail zs → Each Written ks zs → (Each Within ks zs → ⊥) → NotInRanges line ks OutOfRange

-- a field that stands at a token, and says what the token's number decodes to
pub record DecodedAt {K : Type 0} (gives : ℕ → Result K Refusal → Type 0) (line : List ℕ) (t : Token) (f : Field K) : Type 0 where
  pub text : f.text.now ≡ take t.len (drop t.place line)
  pub place : f.place ≡ t.place
  pub value : gives (unsigned_abs t.number) (Ok f.value)

-- what a line with this mark is read as, where the mark may come
abbrev pub ReadAs : Mark → List ℕ → Result Record Refusal → Type 0
ReadAs m line r = (section : Section) → MayCome section m → Reading section line r
