use Rattle.std.proofs.Common.{refl}
use Rattle.lines.proofs.Readings.{recorded}
use Rattle.lines.proofs.declarations.input.Goals as goal

pub returns : goal.returns
returns c = recorded _ _ c.requires _ _ c.in_ok-reactor.ensures tt refl cc
