-- What stands in the fields after each mark, and which numbers each field takes.
use Rattle.std.specs.Prelude.{◌≡◌, suc, ◌^◌, Bool, true, false, ◌⊎◌, List, [], ◌∷◌, ℤ, pos, negsuc, ◌≤ℤ◌, slice_index_or}
use Rattle.lines.specs.Numbers.{Short}
use Rattle.lines.specs.declared.kind.Kind.{Kind}
use Rattle.lines.specs.declared.kind.Kind.TheVariants.{Number, Time, Value, UpTo}
use Rattle.lines.specs.declared.mark.Mark.{Mark}
use Rattle.lines.specs.declared.mark.Mark.TheVariants.{Reactor, Input, Output, Timer, Action, Connection, Reaction, Trigger, Write, Schedule, Stop, Bytecode, Instruction, Table, Row, Start, Offer, Advance}

abbrev pub schema : Mark → List Kind
schema Reactor = []
schema Input = Number ∷ []
schema Output = Number ∷ []
schema Timer = Number ∷ Time ∷ Time ∷ []
schema Action = Number ∷ UpTo 1 ∷ Time ∷ []
schema Connection = Number ∷ Number ∷ UpTo 1 ∷ Time ∷ []
schema Reaction = Number ∷ UpTo 255 ∷ []
schema Trigger = Number ∷ UpTo 3 ∷ Number ∷ []
schema Write = Number ∷ Number ∷ []
schema Schedule = Number ∷ Number ∷ []
schema Stop = Time ∷ []
schema Bytecode = []
schema Instruction = UpTo 9 ∷ UpTo 7 ∷ UpTo 7 ∷ Value ∷ []
schema Table = []
schema Row = Value ∷ UpTo 2 ∷ Value ∷ UpTo 7 ∷ Value ∷ []
schema Start = Number ∷ UpTo 1 ∷ UpTo 1 ∷ []
schema Offer = Number ∷ Time ∷ Value ∷ []
schema Advance = Time ∷ UpTo 1000 ∷ []

-- only a value may begin with a minus
abbrev pub minus : Kind → Bool
minus Number = false
minus Time = false
minus Value = true
minus (UpTo n) = false

-- a number may be written in a field of this kind
abbrev pub Written : Kind → ℤ → Type 0
Written k (pos n) = Short n
Written k (negsuc n) = Short (suc n) × (minus k ≡ true)

-- a number lies in the range of this kind
abbrev pub Within : Kind → ℤ → Type 0
Within Number z = pos 0 ≤ℤ z
Within Time z = (pos 0 ≤ℤ z) × (z ≤ℤ pos (10 ^ 18))
Within Value z = (negsuc 2147483647 ≤ℤ z) × (z ≤ℤ pos 2147483647)
Within (UpTo n) z = (pos 0 ≤ℤ z) × (z ≤ℤ pos n)

-- as many numbers as kinds, and each in a relation to its kind
abbrev pub Each : (Kind → ℤ → Type 0) → List Kind → List ℤ → Type 0
Each P [] [] = Unit {0}
Each P [] (z ∷ zs) = ⊥
Each P (k ∷ ks) [] = ⊥
Each P (k ∷ ks) (z ∷ zs) = P k z × Each P ks zs

-- an undelayed connection has no delay
abbrev pub Undelayed : ℤ → ℤ → Type 0
Undelayed k d = k ≡ pos 0 → d ≡ pos 0

-- instructions 4, 5, 8 and 9 name a reading or a target
abbrev pub Names : ℤ → Type 0
Names p = (p ≡ pos 4) ⊎ ((p ≡ pos 5) ⊎ ((p ≡ pos 8) ⊎ (p ≡ pos 9)))

-- instructions 6 and 7 go to a place
abbrev pub Jumps : ℤ → Type 0
Jumps p = (p ≡ pos 6) ⊎ (p ≡ pos 7)

abbrev pub Operand : ℤ → ℤ → Type 0
Operand p k = (Names p → (pos 0 ≤ℤ k) × (k ≤ℤ pos 7)) × (Jumps p → (pos 1 ≤ℤ k) × (k ≤ℤ pos 32))

-- the numbers of a line agree with each other
abbrev pub Agree : Mark → List ℤ → Type 0
Agree Reactor zs = Unit {0}
Agree Input zs = Unit {0}
Agree Output zs = Unit {0}
Agree Timer zs = Unit {0}
Agree Action zs = Unit {0}
Agree Connection zs = Undelayed (slice_index_or zs 2 (pos 0)) (slice_index_or zs 3 (pos 0))
Agree Reaction zs = Unit {0}
Agree Trigger zs = Unit {0}
Agree Write zs = Unit {0}
Agree Schedule zs = Unit {0}
Agree Stop zs = Unit {0}
Agree Bytecode zs = Unit {0}
Agree Instruction zs = Operand (slice_index_or zs 0 (pos 0)) (slice_index_or zs 3 (pos 0))
Agree Table zs = Unit {0}
Agree Row zs = Unit {0}
Agree Start zs = Unit {0}
Agree Offer zs = Unit {0}
Agree Advance zs = Unit {0}
