-- When a declaration is refused, given what was declared before it.
use Rattle.std.specs.Prelude.{ℕ, Bool, true, false, cond, not, ◌&&◌, ◌||◌, List, map, length, count_by, is_some, Some, None, Option, ◌==◌, nat_le, slice_index, slice_index_or}
use Rattle.std.specs.List.{list_any}
use Rattle.lines.specs.declared.records.ActionKind.{ActionKind}
use Rattle.lines.specs.declared.records.ActionKind.TheVariants.{Logical, Physical}
use Rattle.lines.specs.declared.records.TriggerKind.{TriggerKind}
use Rattle.lines.specs.declared.records.TriggerKind.TheVariants as trigger
use Rattle.lines.specs.Records.{trigger_code}
use Rattle.refusals.specs.declared.refusal.Refusal.{Refusal}
use Rattle.refusals.specs.declared.refusal.Refusal.TheVariants.{Undeclared, Foreign, Repeated, Full}
use Rattle.network.specs.Tables.{Parts}
use Rattle.network.specs.declared.parts.Declaration.{Declaration}
use Rattle.network.specs.declared.parts.Declaration.TheVariants as declaration
use Rattle.network.specs.declared.parts.Target.{Target}
use Rattle.network.specs.declared.parts.TargetKind.{TargetKind}
use Rattle.network.specs.declared.parts.TargetKind.TheVariants as target
use Rattle.network.specs.declared.parts.Trigger.{Trigger}

-- the number is past the end of a table of so many things
abbrev pub missing : ℕ → ℕ → Bool
missing n count = nat_le count n

-- the reactors of what a trigger of this kind may name
abbrev pub owners : Parts → TriggerKind → List ℕ
owners p trigger.Input = p.inputs
owners p trigger.Timer = map (λ t. t.reactor) p.timers
owners p trigger.Action = map (λ a. a.reactor) p.actions
owners p trigger.ReadInput = p.inputs

-- the reactors of what a target of this kind may name
abbrev pub holders : Parts → TargetKind → List ℕ
holders p target.Output = p.outputs
holders p target.Action = map (λ a. a.reactor) p.actions

-- the reactors of the reactions
abbrev pub homes : Parts → List ℕ
homes p = map (λ x. x.reactor) p.reactions

-- it names something that is not declared
abbrev pub undeclared : Parts → Declaration → Bool
undeclared p declaration.Reactor = false
undeclared p (declaration.Input r) = missing r p.reactors
undeclared p (declaration.Output r) = missing r p.reactors
undeclared p (declaration.Timer t) = missing t.reactor p.reactors
undeclared p (declaration.Action a) = missing a.reactor p.reactors
undeclared p (declaration.Connection c) = missing c.output (length p.outputs) || missing c.input (length p.inputs)
undeclared p (declaration.Reaction x) = missing x.reactor p.reactors
undeclared p (declaration.Trigger t) = missing t.reaction (length (homes p)) || missing t.source (length (owners p t.kind))
undeclared p (declaration.Target t) = missing t.reaction (length (homes p)) || missing t.number (length (holders p t.kind))
undeclared p (declaration.Stop t) = false

-- the same trigger: its reaction, its kind and its source
abbrev pub same_trigger : Trigger → Trigger → Bool
same_trigger t u = t.reaction == u.reaction && (trigger_code t.kind == trigger_code u.kind && t.source == u.source)

abbrev pub target_code : TargetKind → ℕ
target_code target.Output = 0
target_code target.Action = 1

-- the same target: its reaction, its kind and its number
abbrev pub same_target : Target → Target → Bool
same_target t u = t.reaction == u.reaction && (target_code t.kind == target_code u.kind && t.number == u.number)

abbrev pub physical : ActionKind → Bool
physical Logical = false
physical Physical = true

-- a target that is a physical action
abbrev pub unschedulable : Parts → TargetKind → ℕ → Bool
unschedulable p target.Output n = false
unschedulable p target.Action n = slice_index_or (map (λ a. physical a.kind) p.actions) n false

-- it names what belongs to another reactor, or schedules a physical action
abbrev pub foreign : Parts → Declaration → Bool
foreign p declaration.Reactor = false
foreign p (declaration.Input r) = false
foreign p (declaration.Output r) = false
foreign p (declaration.Timer t) = false
foreign p (declaration.Action a) = false
foreign p (declaration.Connection c) = false
foreign p (declaration.Reaction x) = false
foreign p (declaration.Trigger t) = not (slice_index (homes p) t.reaction == slice_index (owners p t.kind) t.source)
foreign p (declaration.Target t) = not (slice_index (homes p) t.reaction == slice_index (holders p t.kind) t.number) || unschedulable p t.kind t.number
foreign p (declaration.Stop t) = false

-- an input joined already, the same trigger or target again, or a second stop tag
abbrev pub repeated : Parts → Declaration → Bool
repeated p declaration.Reactor = false
repeated p (declaration.Input r) = false
repeated p (declaration.Output r) = false
repeated p (declaration.Timer t) = false
repeated p (declaration.Action a) = false
repeated p (declaration.Connection c) = list_any (λ d. d.input == c.input) p.connections
repeated p (declaration.Reaction x) = false
repeated p (declaration.Trigger t) = list_any (λ u. same_trigger u t) p.triggers
repeated p (declaration.Target t) = list_any (λ u. same_target u t) p.targets
repeated p (declaration.Stop t) = is_some p.stop

-- its table is full
abbrev pub full : Parts → Declaration → Bool
full p declaration.Reactor = nat_le 16 p.reactors
full p (declaration.Input r) = nat_le 64 (length p.inputs)
full p (declaration.Output r) = nat_le 64 (length p.outputs)
full p (declaration.Timer t) = nat_le 16 (length p.timers)
full p (declaration.Action a) = nat_le 32 (length p.actions)
full p (declaration.Connection c) = nat_le 64 (length p.connections)
full p (declaration.Reaction x) = nat_le 64 (length p.reactions)
full p (declaration.Trigger t) = nat_le 8 (count_by (λ u. u.reaction == t.reaction) p.triggers)
full p (declaration.Target t) = nat_le 8 (count_by (λ u. u.reaction == t.reaction) p.targets)
full p (declaration.Stop t) = false

-- whether there is a place for it
abbrev pub room : Parts → Declaration → Option Refusal
room p d = cond (repeated p d) (Some Repeated) (cond (full p d) (Some Full) None)

-- the lowest refusal that holds, or none
abbrev pub refusal : Parts → Declaration → Option Refusal
refusal p d = cond (undeclared p d) (Some Undeclared) (cond (foreign p d) (Some Foreign) (room p d))
