-- What adding a declaration answers, and what it leaves.
use Rattle.std.specs.Prelude.{◌≡◌, Some, None, Ok, Err, Result}
use Rattle.network.specs.Rules.{refusal}
use Rattle.network.specs.Tables.{Parts, declare}
use Rattle.refusals.specs.declared.error.BuildError.{BuildError}
use Rattle.refusals.specs.declared.error.BuildError.TheVariants.{Refused, NoMemory}
use Rattle.network.specs.declared.parts.Declaration.{Declaration}

-- it is added exactly where nothing refuses it and memory is found; else the parts stay
abbrev pub Added : Parts → Declaration → Result (Unit {0}) BuildError → Parts → Type 0
Added from d (Ok u) to = (refusal from d ≡ None) × (to ≡ declare from d)
Added from d (Err (Refused e)) to = (refusal from d ≡ Some e) × (to ≡ from)
Added from d (Err (NoMemory e)) to = (refusal from d ≡ None) × (to ≡ from)
