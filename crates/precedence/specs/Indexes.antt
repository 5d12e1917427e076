-- What an index holds.
use Rattle.std.specs.Prelude.{◌≡◌, ℕ, List, map, length, vec_items, filter}
use Rattle.std.specs.List.{range_with_len}
use Rattle.network.specs.Tables.{Parts}
use Rattle.network.specs.declared.parts.Connection.{Connection}
use Rattle.network.specs.declared.parts.Reaction.{Reaction}
use Rattle.network.specs.declared.parts.Target.{Target}
use Rattle.network.specs.declared.parts.Trigger.{Trigger}
use Rattle.precedence.specs.Tests.{all_readings, all_targets, all_joinings, preceding}
use Rattle.precedence.specs.declared.index.Index.{Index}

abbrev pub readings_held : Index → List (List Trigger)
readings_held x = map vec_items (vec_items x.readings)

abbrev pub targets_held : Index → List (List Target)
targets_held x = map vec_items (vec_items x.targets)

abbrev pub joinings_held : Index → List (List Connection)
joinings_held x = map vec_items (vec_items x.joinings)

-- an index of a network holds the lines of each reaction and input
pub record Indexes (p : Parts) (x : Index) : Type 0 where
  pub readings : readings_held x ≡ all_readings p
  pub targets : targets_held x ≡ all_targets p
  pub joinings : joinings_held x ≡ all_joinings p

-- what an index finds to precede a reaction directly, by number
abbrev pub before : Index → List Reaction → ℕ → List ℕ
before x reactions b = filter (λ a. preceding (map (λ y. y.reactor) reactions) (targets_held x) (joinings_held x) (readings_held x) a b) (range_with_len 0 (length reactions))
