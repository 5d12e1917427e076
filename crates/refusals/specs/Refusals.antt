-- The number of each refusal.
use Rattle.std.specs.Prelude.{ℕ}
use Rattle.refusals.specs.declared.refusal.Refusal.{Refusal}
use Rattle.refusals.specs.declared.refusal.Refusal.TheVariants.{UnknownMark, Malformed, OutOfRange, Undeclared, Foreign, Repeated, Full, Circle}

abbrev pub refusal_number : Refusal → ℕ
refusal_number UnknownMark = 1
refusal_number Malformed = 2
refusal_number OutOfRange = 3
refusal_number Undeclared = 4
refusal_number Foreign = 5
refusal_number Repeated = 6
refusal_number Full = 7
refusal_number Circle = 8
