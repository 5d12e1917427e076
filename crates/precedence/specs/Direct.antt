-- Which reactions directly precede which.
use Rattle.std.specs.Prelude.{◌≡◌, ℕ, ◌<◌, ◌⊎◌, length, Contains, slice_index}
use Rattle.lines.specs.declared.records.ConnectionKind.TheVariants.{Undelayed}
use Rattle.lines.specs.declared.records.TriggerKind.TheVariants as trigger
use Rattle.network.specs.Rules.{homes}
use Rattle.network.specs.Tables.{Parts}
use Rattle.network.specs.declared.parts.TargetKind.TheVariants as target

-- the reactor of a reaction
abbrev pub home : Parts → ℕ → ℕ
home p x = slice_index (homes p) x

-- reaction x may set output o
abbrev pub MaySet : Parts → ℕ → ℕ → Type 0
MaySet p x o = Contains p.targets (record { reaction = x; kind = target.Output; number = o })

-- output o is joined undelayed to input i
pub record JoinedUndelayed (p : Parts) (o i : ℕ) : Type 0 where
  pub delay : ℕ
  pub joins : Contains p.connections (record { output = o; input = i; kind = Undelayed; delay = delay })

-- input i triggers reaction x, or is read by it
abbrev pub TakesIn : Parts → ℕ → ℕ → Type 0
TakesIn p x i = Contains p.triggers (record { reaction = x; kind = trigger.Input; source = i }) ⊎ Contains p.triggers (record { reaction = x; kind = trigger.ReadInput; source = i })

-- reaction a directly precedes reaction b
pub data Directly (p : Parts) (a b : ℕ) : Type 0 where
  same_reactor : a < b → b < length p.reactions → home p a ≡ home p b → Directly p a b
  joined : (o i : ℕ) → a < length p.reactions → b < length p.reactions → i < length p.inputs → MaySet p a o → JoinedUndelayed p o i → TakesIn p b i → Directly p a b
