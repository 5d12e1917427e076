-- The marks that lines begin with.
use Rattle.std.specs.Prelude.{◌≡◌, ℕ, List, take, codes}
use Rattle.lines.specs.declared.mark.Mark.{Mark}
use Rattle.lines.specs.declared.mark.Mark.TheVariants.{Reactor, Input, Output, Timer, Action, Connection, Reaction, Trigger, Write, Schedule, Stop, Bytecode, Instruction, Table, Row, Start, Offer, Advance}

abbrev pub letters : Mark → List ℕ
letters Reactor = codes "RE"
letters Input = codes "IP"
letters Output = codes "OP"
letters Timer = codes "TI"
letters Action = codes "AC"
letters Connection = codes "CN"
letters Reaction = codes "RX"
letters Trigger = codes "TR"
letters Write = codes "WR"
letters Schedule = codes "SC"
letters Stop = codes "EN"
letters Bytecode = codes "BO"
letters Instruction = codes "IS"
letters Table = codes "BT"
letters Row = codes "RW"
letters Start = codes "GO"
letters Offer = codes "OF"
letters Advance = codes "AD"

-- a line begins with a mark's letters
abbrev pub Begins : List ℕ → Mark → Type 0
Begins line m = take 2 line ≡ letters m
