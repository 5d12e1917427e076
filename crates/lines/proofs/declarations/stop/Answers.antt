use Rattle.std.proofs.Common.{refl}
use Rattle.lines.proofs.Readings.{recorded}
use Rattle.lines.proofs.declarations.stop.Goals as goal

pub returns : goal.returns
returns c = recorded _ _ c.requires _ _ c.in_ok-time.ensures tt refl cc
