-- What a record declares.
use Rattle.std.specs.Prelude.{cond, Some, None, Option, nat_lt}
use Rattle.lines.specs.declared.records.Record.{Record}
use Rattle.lines.specs.declared.records.Record.TheVariants.{Reactor, Input, Output, Timer, Action, Connection, Reaction, Trigger, Write, Schedule, Stop, Bytecode, Instruction, Table, Row, Start, Offer, Advance}
use Rattle.network.specs.declared.parts.Declaration.{Declaration}
use Rattle.network.specs.declared.parts.Declaration.TheVariants as declaration
use Rattle.network.specs.declared.parts.TargetKind.TheVariants as target

-- bodies, and what only a run takes, declare nothing here
abbrev pub declares : Record → Option Declaration
declares Reactor = Some declaration.Reactor
declares (Input r) = Some (declaration.Input r.value)
declares (Output r) = Some (declaration.Output r.value)
declares (Timer r o p) = Some (declaration.Timer (record { reactor = r.value; first = o.value; period = p.value }))
declares (Action r k d) = Some (declaration.Action (record { reactor = r.value; kind = k.value; delay = d.value }))
declares (Connection o i k d) = Some (declaration.Connection (record { output = o.value; input = i.value; kind = k.value; delay = d.value }))
declares (Reaction r b) = cond (nat_lt b.value 256) (Some (declaration.Reaction (record { reactor = r.value; body = b.value }))) None
declares (Trigger x k n) = Some (declaration.Trigger (record { reaction = x.value; kind = k.value; source = n.value }))
declares (Write x n) = Some (declaration.Target (record { reaction = x.value; kind = target.Output; number = n.value }))
declares (Schedule x n) = Some (declaration.Target (record { reaction = x.value; kind = target.Action; number = n.value }))
declares (Stop t) = Some (declaration.Stop t.value)
declares Bytecode = None
declares (Instruction p a b k) = None
declares Table = None
declares (Row s c n j v) = None
declares (Start c p q) = None
declares (Offer a t v) = None
declares (Advance u n) = None
