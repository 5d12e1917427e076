use Rattle.std.proofs.Common.{refl}
use Rattle.lines.proofs.Readings.{recorded}
use Rattle.lines.proofs.declarations.write.Goals as goal

pub returns : goal.returns
returns c = recorded _ _ c.requires _ _ c.in_ok-reaction.ensures tt refl cc
