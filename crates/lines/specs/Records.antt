-- A record as a mark and the fields after it.
use Rattle.std.specs.Prelude.{◌≡◌, ◌≢◌, ℕ, List, [], ◌∷◌, ℤ, pos, Result, MatchResult}
use Rattle.lines.specs.Texts.{Entry}
use Rattle.lines.specs.declared.mark.Mark.{Mark}
use Rattle.lines.specs.declared.mark.Mark.TheVariants as mark
use Rattle.lines.specs.declared.records.ActionKind.{ActionKind}
use Rattle.lines.specs.declared.records.ActionKind.TheVariants.{Logical, Physical}
use Rattle.lines.specs.declared.records.ConnectionKind.{ConnectionKind}
use Rattle.lines.specs.declared.records.ConnectionKind.TheVariants.{Undelayed, Delayed}
use Rattle.lines.specs.declared.records.Field.{Field}
use Rattle.lines.specs.declared.records.Opcode.{Opcode}
use Rattle.lines.specs.declared.records.Opcode.TheVariants as opcode
use Rattle.lines.specs.declared.records.PickerKind.{PickerKind}
use Rattle.lines.specs.declared.records.PickerKind.TheVariants as picker
use Rattle.lines.specs.declared.records.QueueKind.{QueueKind}
use Rattle.lines.specs.declared.records.QueueKind.TheVariants as queue
use Rattle.lines.specs.declared.records.ReadingClass.{ReadingClass}
use Rattle.lines.specs.declared.records.ReadingClass.TheVariants.{Absent, AtMostZero, AboveZero}
use Rattle.lines.specs.declared.records.Record.{Record}
use Rattle.lines.specs.declared.records.Record.TheVariants.{Reactor, Input, Output, Timer, Action, Connection, Reaction, Trigger, Write, Schedule, Stop, Bytecode, Instruction, Table, Row, Start, Offer, Advance}
use Rattle.lines.specs.declared.records.TriggerKind.{TriggerKind}
use Rattle.lines.specs.declared.records.TriggerKind.TheVariants as trigger
use Rattle.refusals.specs.declared.refusal.Refusal.{Refusal}
use Rattle.refusals.specs.declared.refusal.Refusal.TheVariants.{OutOfRange}

-- the numbers that stand for kinds
abbrev pub action_code : ActionKind → ℕ
action_code Logical = 0
action_code Physical = 1

abbrev pub connection_code : ConnectionKind → ℕ
connection_code Undelayed = 0
connection_code Delayed = 1

abbrev pub trigger_code : TriggerKind → ℕ
trigger_code trigger.Input = 0
trigger_code trigger.Timer = 1
trigger_code trigger.Action = 2
trigger_code trigger.ReadInput = 3

abbrev pub opcode_number : Opcode → ℕ
opcode_number opcode.End = 0
opcode_number opcode.Put = 1
opcode_number opcode.Add = 2
opcode_number opcode.Subtract = 3
opcode_number opcode.Read = 4
opcode_number opcode.Present = 5
opcode_number opcode.JumpIfZero = 6
opcode_number opcode.JumpIfLess = 7
opcode_number opcode.Set = 8
opcode_number opcode.Schedule = 9

abbrev pub class_code : ReadingClass → ℕ
class_code Absent = 0
class_code AtMostZero = 1
class_code AboveZero = 2

abbrev pub picker_code : PickerKind → ℕ
picker_code picker.Level = 0
picker_code picker.Turn = 1

abbrev pub queue_code : QueueKind → ℕ
queue_code queue.Heap = 0
queue_code queue.List = 1

-- the result is the kind with this number, or a refusal where no kind has it
abbrev pub Decodes : {K : Type 0} → (K → ℕ) → ℕ → Result K Refusal → Type 0
Decodes code n r = MatchResult r (λ k. code k ≡ n) (λ e. (e ≡ OutOfRange) × ((k : _) → code k ≢ n))

-- a field by its part of the line, its place and its number
abbrev pub field : {T : Type 0} → (T → ℤ) → Field T → Entry
field number f = record { bytes = f.text.now; place = f.place; number = number f.value }

abbrev pub counted : Field ℕ → Entry
counted f = field pos f

abbrev pub valued : Field ℤ → Entry
valued f = field (λ z. z) f

abbrev pub mark_of : Record → Mark
mark_of Reactor = mark.Reactor
mark_of (Input r) = mark.Input
mark_of (Output r) = mark.Output
mark_of (Timer r o p) = mark.Timer
mark_of (Action r k d) = mark.Action
mark_of (Connection o i k d) = mark.Connection
mark_of (Reaction r b) = mark.Reaction
mark_of (Trigger x k n) = mark.Trigger
mark_of (Write x n) = mark.Write
mark_of (Schedule x n) = mark.Schedule
mark_of (Stop t) = mark.Stop
mark_of Bytecode = mark.Bytecode
mark_of (Instruction p a b k) = mark.Instruction
mark_of Table = mark.Table
mark_of (Row s c n j v) = mark.Row
mark_of (Start c p q) = mark.Start
mark_of (Offer a t v) = mark.Offer
mark_of (Advance u n) = mark.Advance

abbrev pub fields_of : Record → List Entry
fields_of Reactor = []
fields_of (Input r) = counted r ∷ []
fields_of (Output r) = counted r ∷ []
fields_of (Timer r o p) = counted r ∷ counted o ∷ counted p ∷ []
fields_of (Action r k d) = counted r ∷ field (λ a. pos (action_code a)) k ∷ counted d ∷ []
fields_of (Connection o i k d) = counted o ∷ counted i ∷ field (λ a. pos (connection_code a)) k ∷ counted d ∷ []
fields_of (Reaction r b) = counted r ∷ counted b ∷ []
fields_of (Trigger x k n) = counted x ∷ field (λ a. pos (trigger_code a)) k ∷ counted n ∷ []
fields_of (Write x n) = counted x ∷ counted n ∷ []
fields_of (Schedule x n) = counted x ∷ counted n ∷ []
fields_of (Stop t) = counted t ∷ []
fields_of Bytecode = []
fields_of (Instruction p a b k) = field (λ o. pos (opcode_number o)) p ∷ counted a ∷ counted b ∷ valued k ∷ []
fields_of Table = []
fields_of (Row s c n j v) = valued s ∷ field (λ a. pos (class_code a)) c ∷ valued n ∷ counted j ∷ valued v ∷ []
fields_of (Start c p q) = counted c ∷ field (λ a. pos (picker_code a)) p ∷ field (λ a. pos (queue_code a)) q ∷ []
fields_of (Offer a t v) = counted a ∷ counted t ∷ valued v ∷ []
fields_of (Advance u n) = counted u ∷ counted n ∷ []
