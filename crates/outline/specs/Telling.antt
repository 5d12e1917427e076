-- What a line says where it stands, and what it changes.
use Rattle.std.specs.Prelude.{◌≡◌, ℕ, List, Ok, Err, Result, ◌≢◌}
use Rattle.lines.specs.Reading.{Reading}
use Rattle.lines.specs.declared.records.Field.{Field}
use Rattle.lines.specs.declared.records.PickerKind.{PickerKind}
use Rattle.lines.specs.declared.records.QueueKind.{QueueKind}
use Rattle.lines.specs.declared.records.Record.{Record}
use Rattle.lines.specs.declared.records.Record.TheVariants.{Start}
use Rattle.refusals.specs.declared.refusal.Refusal.{Refusal}
use Rattle.refusals.specs.declared.refusal.Refusal.TheVariants.{UnknownMark, Malformed}
use Rattle.lines.specs.declared.section.Section.{Section}
use Rattle.lines.specs.declared.section.Section.TheVariants.{Run}
use Rattle.outline.specs.Counting.{counted, IsOrphan}
use Rattle.outline.specs.declared.counts.Counts.{Counts}
use Rattle.outline.specs.declared.declared.Declared.{Declared}
use Rattle.outline.specs.declared.progress.Progress.{Progress}

-- a record leads from one section to the other: the start to the run, and any other nowhere
pub record Leads (from : Section) (r : Record) (to : Section) : Type 0 where
  pub starts : (c : Field ℕ) (p : Field PickerKind) (q : Field QueueKind) → r ≡ Start c p q → to ≡ Run
  pub stays : ((c : Field ℕ) (p : Field PickerKind) (q : Field QueueKind) → r ≢ Start c p q) → to ≡ from

-- the answer for a line where it stands: as it reads, but an orphan is malformed where its mark may come
pub data Here (section : Section) (counts : Counts) (line : List ℕ) : Result Record Refusal → Type 0 where
  as_read : (answer : Result Record Refusal) → Reading section line answer → (IsOrphan counts line → ⊥) → Here section counts line answer
  no_mark : Reading section line (Err UnknownMark) → Here section counts line (Err UnknownMark)
  orphan : IsOrphan counts line → (Reading section line (Err UnknownMark) → ⊥) → Here section counts line (Err Malformed)

-- a record is told with what was counted before it, and is counted
pub record Declares (from : Progress) (line : List ℕ) (d : Declared) (to : Progress) : Type 0 where
  pub read : Here from.section from.counts line (Ok d.record)
  pub before : d.before ≡ from.counts
  pub counts : to.counts ≡ counted d.record from.counts
  pub section : Leads from.section d.record to.section

-- what is told of a line; a refused line changes nothing
abbrev pub Tells : Progress → List ℕ → Progress → Result Declared Refusal → Type 0
Tells from line to (Ok d) = Declares from line d to
Tells from line to (Err e) = Here from.section from.counts line (Err e) × (to ≡ from)
