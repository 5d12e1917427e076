-- What reading a line answers.
use Rattle.std.specs.Prelude.{◌≡◌, ℕ, ◌⊎◌, List, map, ℤ, Ok, Err, Result}
use Rattle.std.proofs.Common.{inl, inr}
use Rattle.lines.specs.Fields.{Each, Written, Within, Agree, schema}
use Rattle.lines.specs.Marks.{Begins}
use Rattle.lines.specs.Records.{mark_of, fields_of}
use Rattle.lines.specs.Sections.{MayCome}
use Rattle.lines.specs.Texts.{Entry, entries, text}
use Rattle.lines.specs.declared.mark.Mark.{Mark}
use Rattle.lines.specs.declared.records.Record.{Record}
use Rattle.refusals.specs.declared.refusal.Refusal.{Refusal}
use Rattle.refusals.specs.declared.refusal.Refusal.TheVariants.{UnknownMark, Malformed, OutOfRange}
use Rattle.lines.specs.declared.section.Section.{Section}

-- a line is well formed: it is the text of a mark and of numbers that its fields may write
pub record Says (line : List ℕ) (m : Mark) (zs : List ℤ) : Type 0 where
  pub whole : line ≡ text m zs
  pub written : Each Written (schema m) zs

-- the numbers lie in their ranges
pub record Ranged (m : Mark) (zs : List ℤ) : Type 0 where
  pub each : Each Within (schema m) zs
  pub agree : Agree m zs

abbrev pub numbers_of : Record → List ℤ
numbers_of r = map (λ e. e.number) (fields_of r)

-- a record is what the line says, and its fields are the parts of the line where they stand
pub record Tells (line : List ℕ) (r : Record) : Type 0 where
  pub says : Says line (mark_of r) (numbers_of r)
  pub ranged : Ranged (mark_of r) (numbers_of r)
  pub fields : fields_of r ≡ entries 2 (numbers_of r)

-- the answer for a line, where only some marks may come
pub data Reading (section : Section) (line : List ℕ) : Result Record Refusal → Type 0 where
  reads : (r : Record) → MayCome section (mark_of r) → Tells line r → Reading section line (Ok r)
  no_mark : ((m : Mark) → MayCome section m → Begins line m → ⊥) → Reading section line (Err UnknownMark)
  malformed : (m : Mark) → MayCome section m → Begins line m → ((zs : List ℤ) → Says line m zs → ⊥) → Reading section line (Err Malformed)
  out_of_range : (m : Mark) (zs : List ℤ) → MayCome section m → Says line m zs → (Ranged m zs → ⊥) → Reading section line (Err OutOfRange)

-- a well-formed line has one reading
abbrev pub OneReading : Type 0
OneReading = (line : List ℕ) (m n : Mark) (ys zs : List ℤ) → Says line m ys → Says line n zs → (m ≡ n) × (ys ≡ zs)

-- what an answer tells: a mark with its fields, or a refusal
abbrev pub told : Result Record Refusal → (Mark × List Entry) ⊎ Refusal
told (Ok r) = inl (mark_of r, fields_of r)
told (Err e) = inr e

-- a line has one answer
abbrev pub OneAnswer : Type 0
OneAnswer = (section : Section) (line : List ℕ) (p q : Result Record Refusal) → Reading section line p → Reading section line q → told p ≡ told q
