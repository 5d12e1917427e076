-- Numbers that stand for kinds.
use Rattle.std.proofs.Common.{◌≡◌, ℕ, Bool, List, ℤ, pos, ◌≤ℤ◌, Ok, Err, Result, IsOk, unsigned_abs, Decides, refl, ap, subst, ◌∙◌, arith}
use Rattle.std.proofs.lemmas.Int.{ints}
use Rattle.lines.specs.Records.{Decodes, action_code, connection_code, trigger_code, opcode_number, class_code, picker_code, queue_code, field}
use Rattle.lines.specs.Steps.{entry, DecodedAt}
use Rattle.lines.specs.declared.cursor.Token.{Token}
use Rattle.lines.specs.declared.records.ActionKind.TheVariants.{Logical, Physical}
use Rattle.lines.specs.declared.records.ConnectionKind.TheVariants.{Undelayed, Delayed}
use Rattle.lines.specs.declared.records.Field.{Field}
use Rattle.lines.specs.declared.records.Opcode.TheVariants as opcode
use Rattle.lines.specs.declared.records.PickerKind.TheVariants as picker
use Rattle.lines.specs.declared.records.QueueKind.TheVariants as queue
use Rattle.lines.specs.declared.records.ReadingClass.TheVariants.{Absent, AtMostZero, AboveZero}
use Rattle.lines.specs.declared.records.TriggerKind.TheVariants as trigger
use Rattle.refusals.specs.declared.refusal.Refusal.{Refusal}

-- a number up to the last that stands for a kind stands for one
abbrev Known : {K : Type 0} → (K → ℕ) → ℕ → Type 0
Known {K} code last = (z : ℤ) → (pos 0 ≤ℤ z) × (z ≤ℤ pos last) → (r : Result K Refusal) → Decodes code (unsigned_abs z) r → IsOk r

pub action_known : Known action_code 1
action_known z range (Ok k) h = refl
action_known z range (Err e) h = absurd (omega (arith, ints, h.1 Logical, h.1 Physical))

pub connection_known : Known connection_code 1
connection_known z range (Ok k) h = refl
connection_known z range (Err e) h = absurd (omega (arith, ints, h.1 Undelayed, h.1 Delayed))

pub trigger_known : Known trigger_code 3
trigger_known z range (Ok k) h = refl
trigger_known z range (Err e) h = absurd (omega (arith, ints, h.1 trigger.Input, h.1 trigger.Timer, h.1 trigger.Action, h.1 trigger.ReadInput))

pub opcode_known : Known opcode_number 9
opcode_known z range (Ok k) h = refl
opcode_known z range (Err e) h = absurd (omega (arith, ints, h.1 opcode.End, h.1 opcode.Put, h.1 opcode.Add, h.1 opcode.Subtract, h.1 opcode.Read, h.1 opcode.Present, h.1 opcode.JumpIfZero, h.1 opcode.JumpIfLess, h.1 opcode.Set, h.1 opcode.Schedule))

pub class_known : Known class_code 2
class_known z range (Ok k) h = refl
class_known z range (Err e) h = absurd (omega (arith, ints, h.1 Absent, h.1 AtMostZero, h.1 AboveZero))

pub picker_known : Known picker_code 1
picker_known z range (Ok k) h = refl
picker_known z range (Err e) h = absurd (omega (arith, ints, h.1 picker.Level, h.1 picker.Turn))

pub queue_known : Known queue_code 1
queue_known z range (Ok k) h = refl
queue_known z range (Err e) h = absurd (omega (arith, ints, h.1 queue.Heap, h.1 queue.List))

-- a field whose number stands for a kind
pub kind_entry : {K : Type 0} (code : K → ℕ) {line : List ℕ} {t : Token} {f : Field K} → DecodedAt (Decodes code) line t f → pos 0 ≤ℤ t.number → field (λ a. pos (code a)) f ≡ entry line t
kind_entry code {line} {t} {f} at plain =
    let text = at.text in
    let place = at.place in
    let number : pos (code f.value) ≡ t.number = ap pos at.value ∙ omega (arith, ints) in
    λ j. record { bytes = text j; place = place j; number = number j }

-- what a test decides of two numbers, it decides of their equals
pub decided_at : (P : ℤ → ℤ → Type 0) (r : Bool) (x y z w : ℤ) → Decides r (P x y) → x ≡ z → y ≡ w → Decides r (P z w)
decided_at P r x y z w d e f = subst (λ (a : ℤ). Decides r (P z a)) f (subst (λ (a : ℤ). Decides r (P a y)) e d)
