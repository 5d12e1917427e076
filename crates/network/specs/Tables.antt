-- The parts of a network: tables of things, each numbered from 0.
use Rattle.std.specs.Prelude.{ℕ, ◌+◌, List, [], ◌∷◌, ◌++◌, Some, None, Option}
use Rattle.network.specs.declared.parts.Action.{Action}
use Rattle.network.specs.declared.parts.Connection.{Connection}
use Rattle.network.specs.declared.parts.Declaration.{Declaration}
use Rattle.network.specs.declared.parts.Declaration.TheVariants as declaration
use Rattle.network.specs.declared.parts.Reaction.{Reaction}
use Rattle.network.specs.declared.parts.Target.{Target}
use Rattle.network.specs.declared.parts.Timer.{Timer}
use Rattle.network.specs.declared.parts.Trigger.{Trigger}

-- the parts of a network
pub record Parts : Type 0 where
  pub reactors : ℕ
  -- the reactor of each input, and of each output
  pub inputs : List ℕ
  pub outputs : List ℕ
  pub timers : List Timer
  pub actions : List Action
  pub connections : List Connection
  pub reactions : List Reaction
  -- the triggers and readings of all reactions, and their targets
  pub triggers : List Trigger
  pub targets : List Target
  pub stop : Option ℕ

abbrev pub no_parts : Parts
no_parts = record { reactors = 0; inputs = []; outputs = []; timers = []; actions = []; connections = []; reactions = []; triggers = []; targets = []; stop = None }

-- one thing more
abbrev pub declare : Parts → Declaration → Parts
declare p declaration.Reactor = record p { reactors = p.reactors + 1 }
declare p (declaration.Input r) = record p { inputs = p.inputs ++ r ∷ [] }
declare p (declaration.Output r) = record p { outputs = p.outputs ++ r ∷ [] }
declare p (declaration.Timer t) = record p { timers = p.timers ++ t ∷ [] }
declare p (declaration.Action a) = record p { actions = p.actions ++ a ∷ [] }
declare p (declaration.Connection c) = record p { connections = p.connections ++ c ∷ [] }
declare p (declaration.Reaction x) = record p { reactions = p.reactions ++ x ∷ [] }
declare p (declaration.Trigger t) = record p { triggers = p.triggers ++ t ∷ [] }
declare p (declaration.Target t) = record p { targets = p.targets ++ t ∷ [] }
declare p (declaration.Stop t) = record p { stop = Some t }
