-- Direct precedence as a test.
use Rattle.std.specs.Prelude.{ℕ, Bool, true, false, ◌&&◌, ◌||◌, List, [], map, length, filter, ◌==◌, nat_lt, slice_index, slice_index_or}
use Rattle.std.specs.List.{list_any, range_with_len}
use Rattle.lines.specs.declared.records.ConnectionKind.{ConnectionKind}
use Rattle.lines.specs.declared.records.ConnectionKind.TheVariants.{Undelayed, Delayed}
use Rattle.lines.specs.declared.records.TriggerKind.{TriggerKind}
use Rattle.lines.specs.declared.records.TriggerKind.TheVariants as trigger
use Rattle.network.specs.Rules.{homes}
use Rattle.network.specs.Tables.{Parts}
use Rattle.network.specs.declared.parts.Connection.{Connection}
use Rattle.network.specs.declared.parts.Target.{Target}
use Rattle.network.specs.declared.parts.TargetKind.{TargetKind}
use Rattle.network.specs.declared.parts.TargetKind.TheVariants as target
use Rattle.network.specs.declared.parts.Trigger.{Trigger}
use Rattle.rows.specs.Rows.{by_key}

abbrev pub is_output : TargetKind → Bool
is_output target.Output = true
is_output target.Action = false

-- a target that is this output
abbrev pub sets : ℕ → Target → Bool
sets o t = is_output t.kind && t.number == o

abbrev pub without_delay : ConnectionKind → Bool
without_delay Undelayed = true
without_delay Delayed = false

abbrev pub undelayed : Connection → Bool
undelayed c = without_delay c.kind

abbrev pub is_input : TriggerKind → Bool
is_input trigger.Input = true
is_input trigger.Timer = false
is_input trigger.Action = false
is_input trigger.ReadInput = true

-- a trigger that is an input, or an input that is only read
abbrev pub takes_input : Trigger → Bool
takes_input t = is_input t.kind

-- the triggers and readings of a reaction, its targets, and the connections to an input, each in the order of their lines
abbrev pub readings_of : Parts → ℕ → List Trigger
readings_of p x = filter (λ t. t.reaction == x) p.triggers

abbrev pub targets_of : Parts → ℕ → List Target
targets_of p x = filter (λ t. t.reaction == x) p.targets

abbrev pub joinings_of : Parts → ℕ → List Connection
joinings_of p i = filter (λ c. c.input == i) p.connections

-- the same for all reactions, and for all inputs
abbrev pub all_readings : Parts → List (List Trigger)
all_readings p = by_key (λ t. t.reaction) (length p.reactions) p.triggers

abbrev pub all_targets : Parts → List (List Target)
all_targets p = by_key (λ t. t.reaction) (length p.reactions) p.targets

abbrev pub all_joinings : Parts → List (List Connection)
all_joinings p = by_key (λ c. c.input) (length p.inputs) p.connections

-- some of these targets sets an output that one of these connections joins undelayed
abbrev pub fed : List Target → List Connection → Bool
fed targets joinings = list_any (λ c. undelayed c && list_any (sets c.output) targets) joinings

-- the same for some input among these readings
abbrev pub reached : List Target → List (List Connection) → List Trigger → Bool
reached targets joinings readings = list_any (λ t. takes_input t && fed targets (slice_index_or joinings t.source [])) readings

-- a is the earlier of two reactions of one reactor, given the reactors of all
abbrev pub earlier : List ℕ → ℕ → ℕ → Bool
earlier homes a b = nat_lt a b && slice_index homes a == slice_index homes b

abbrev pub preceding : List ℕ → List (List Target) → List (List Connection) → List (List Trigger) → ℕ → ℕ → Bool
preceding homes targets joinings readings a b = earlier homes a b || reached (slice_index_or targets a []) joinings (slice_index_or readings b [])

abbrev pub precedes : Parts → ℕ → ℕ → Bool
precedes p a b = preceding (homes p) (all_targets p) (all_joinings p) (all_readings p) a b

-- the direct predecessors of a reaction, by number, and those of all reactions
abbrev pub predecessors : Parts → ℕ → List ℕ
predecessors p b = filter (λ a. precedes p a b) (range_with_len 0 (length p.reactions))

abbrev pub graph : Parts → List (List ℕ)
graph p = map (predecessors p) (range_with_len 0 (length p.reactions))
