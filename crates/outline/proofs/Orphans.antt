-- The answers for a line where it stands.
use Rattle.std.proofs.Common.{◌≡◌, ℕ, List, Ok, Err, Result}
use Rattle.lines.specs.Reading.{Reading, OneAnswer, told}
use Rattle.lines.specs.declared.records.Record.{Record}
use Rattle.refusals.specs.declared.refusal.Refusal.{Refusal}
use Rattle.refusals.specs.declared.refusal.Refusal.TheVariants.{UnknownMark, Malformed}
use Rattle.lines.specs.declared.section.Section.{Section}
use Rattle.outline.specs.Counting.{IsOrphan}
use Rattle.outline.specs.Telling.{Here, no_mark, orphan}
use Rattle.outline.specs.declared.counts.Counts.{Counts}

unknown : (answer : Result Record Refusal) → told answer ≡ told (Err UnknownMark) → answer ≡ Err UnknownMark
unknown (Ok r) same = cc
unknown (Err e) same = cc

-- an orphan whose mark may come has no reading without a mark
pub orphaned : (section : Section) (counts : Counts) (line : List ℕ) (answer : Result Record Refusal) → Reading section line answer → OneAnswer → (answer ≡ Err UnknownMark → ⊥) → IsOrphan counts line → Here section counts line (Err Malformed)
orphaned section counts line answer reading one other here = orphan here (λ none. other (unknown answer (one section line answer (Err UnknownMark) reading none)))

pub unmarked : (section : Section) (counts : Counts) (line : List ℕ) (answer : Result Record Refusal) → Reading section line answer → answer ≡ Err UnknownMark → Here section counts line answer
unmarked section counts line answer reading is = rw is (no_mark (rw is at reading))
