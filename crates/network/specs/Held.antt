-- What the tables of the code hold.
use Rattle.std.specs.Prelude.{vec_items}
use Rattle.network.specs.Tables.{Parts}
use Rattle.network.specs.declared.tables.Tables.{Tables}

abbrev pub held : Tables → Parts
held t = record { reactors = t.reactors; inputs = vec_items t.inputs; outputs = vec_items t.outputs; timers = vec_items t.timers; actions = vec_items t.actions; connections = vec_items t.connections; reactions = vec_items t.reactions; triggers = vec_items t.triggers; targets = vec_items t.targets; stop = t.stop }
