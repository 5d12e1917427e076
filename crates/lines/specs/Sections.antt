-- Which marks may come where.
use Rattle.std.specs.Prelude.{◌≡◌}
use Rattle.lines.specs.declared.mark.Mark.{Mark}
use Rattle.lines.specs.declared.mark.Mark.TheVariants as mark
use Rattle.lines.specs.declared.section.Section.{Section}
use Rattle.lines.specs.declared.section.Section.TheVariants.{Network, Bytecode, Table, Setup, Run}

-- the section that a mark belongs to
abbrev pub home : Mark → Section
home mark.Reactor = Network
home mark.Input = Network
home mark.Output = Network
home mark.Timer = Network
home mark.Action = Network
home mark.Connection = Network
home mark.Reaction = Network
home mark.Trigger = Network
home mark.Write = Network
home mark.Schedule = Network
home mark.Stop = Network
home mark.Bytecode = Bytecode
home mark.Instruction = Bytecode
home mark.Table = Table
home mark.Row = Table
home mark.Start = Setup
home mark.Offer = Run
home mark.Advance = Run

-- before the run starts all marks may come that are not the run's, elsewhere just the section's own
abbrev pub MayCome : Section → Mark → Type 0
MayCome Network m = home m ≡ Network
MayCome Bytecode m = home m ≡ Bytecode
MayCome Table m = home m ≡ Table
MayCome Setup m = home m ≡ Run → ⊥
MayCome Run m = home m ≡ Run
