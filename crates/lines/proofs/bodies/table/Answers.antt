use Rattle.std.proofs.Common.{refl}
use Rattle.lines.proofs.Readings.{recorded}
use Rattle.lines.proofs.bodies.table.Goals as goal

pub returns : goal.returns
returns c = recorded _ _ c.requires _ _ c.in_ok-fields.ensures tt refl refl
