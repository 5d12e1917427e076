use Rattle.std.proofs.Common.{refl}
use Rattle.lines.proofs.Readings.{recorded}
use Rattle.lines.proofs.run.advance.Goals as goal

pub returns : goal.returns
returns c = recorded _ _ c.requires _ _ c.in_ok-reading.ensures tt refl cc
