-- What freezing answers.
use Rattle.std.specs.Prelude.{◌≡◌, Ok, Err, Result}
use Rattle.levels.specs.Chains.{Circle}
use Rattle.network.specs.Held.{held}
use Rattle.network.specs.Tables.{Parts}
use Rattle.network.specs.declared.assembly.Assembly.{Assembly}
use Rattle.precedence.specs.Direct.{Directly}
use Rattle.refusals.specs.declared.error.BuildError.{BuildError}
use Rattle.refusals.specs.declared.error.BuildError.TheVariants.{Refused, NoMemory}
use Rattle.refusals.specs.declared.refusal.Refusal.TheVariants as refusal
use Rattle.frozen.specs.declared.frozen.Network.{Network}

-- what a frozen network declares
abbrev pub declared_by : Network → Parts
declared_by n = held n.assembly

-- some chain of direct precedences leads from a reaction back to itself
abbrev pub Circular : Parts → Type 0
Circular p = Circle (Directly p)

-- the frozen network declares what the assembly did, and there is no circle; or there is one; what is not frozen is handed back
abbrev pub Freezes : Assembly → Result Network (Assembly × BuildError) → Type 0
Freezes a (Ok n) = (declared_by n ≡ held a) × (Circular (held a) → ⊥)
Freezes a (Err (b, Refused e)) = (b ≡ a) × (e ≡ refusal.Circle) × Circular (held a)
Freezes a (Err (b, NoMemory e)) = b ≡ a
