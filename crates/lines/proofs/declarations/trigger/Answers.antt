use Rattle.std.proofs.Common.{refl}
use Rattle.lines.specs.Records.{trigger_code}
use Rattle.lines.proofs.Decoding.{trigger_known, kind_entry}
use Rattle.lines.proofs.Readings.{recorded}
use Rattle.lines.proofs.declarations.trigger.Goals as goal

pub kind_at-requires-clause-known : goal.kind_at-requires-clause-known
kind_at-requires-clause-known c = trigger_known _ c.in_ok-reaction.ensures.within.1.0

pub returns : goal.returns
returns c =
    let found = c.in_ok-reaction.ensures in
    let kind = kind_entry trigger_code c.kind_at.ensures found.within.1.0.0 in
    recorded _ _ c.requires _ _ found tt refl cc
