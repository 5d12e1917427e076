-- How things are counted.
use Rattle.std.specs.Prelude.{◌≡◌, ℕ, ◌+◌, ◌-◌, ◌^◌, min, ◌⊎◌, List, take, codes}
use Rattle.lines.specs.declared.records.Record.{Record}
use Rattle.lines.specs.declared.records.Record.TheVariants.{Reactor, Input, Output, Timer, Action, Connection, Reaction, Bytecode, Instruction, Table, Row}
use Rattle.outline.specs.declared.counts.Counts.{Counts}

-- one more, where that fits 64 bits
abbrev pub up : ℕ → ℕ
up n = min (n + 1) (2 ^ 64 - 1)

abbrev pub no_counts : Counts
no_counts = record { reactors = 0; inputs = 0; outputs = 0; timers = 0; actions = 0; connections = 0; reactions = 0; bodies = 0; instructions = 0; tables = 0; rows = 0 }

-- the counts after a record; a new body has no instruction yet, and a new table no row
abbrev pub counted : Record → Counts → Counts
counted Reactor c = record c { reactors = up c.reactors }
counted (Input r) c = record c { inputs = up c.inputs }
counted (Output r) c = record c { outputs = up c.outputs }
counted (Timer r o p) c = record c { timers = up c.timers }
counted (Action r k d) c = record c { actions = up c.actions }
counted (Connection o i k d) c = record c { connections = up c.connections }
counted (Reaction r b) c = record c { reactions = up c.reactions }
counted Bytecode c = record c { bodies = up c.bodies; instructions = 0 }
counted (Instruction p a b k) c = record c { instructions = up c.instructions }
counted Table c = record c { tables = up c.tables; rows = 0 }
counted (Row s k n j v) c = record c { rows = up c.rows }
counted r c = c

-- an instruction before any body, or a row before any table
abbrev pub IsOrphan : Counts → List ℕ → Type 0
IsOrphan c line = ((take 2 line ≡ codes "IS") × (c.bodies ≡ 0)) ⊎ ((take 2 line ≡ codes "RW") × (c.tables ≡ 0))
