use Rattle.std.proofs.Common.{refl}
use Rattle.lines.specs.Records.{action_code}
use Rattle.lines.proofs.Decoding.{action_known, kind_entry}
use Rattle.lines.proofs.Readings.{recorded}
use Rattle.lines.proofs.declarations.action.Goals as goal

pub kind_at-requires-clause-known : goal.kind_at-requires-clause-known
kind_at-requires-clause-known c = action_known _ c.in_ok-reactor.ensures.within.1.0

pub returns : goal.returns
returns c =
    let found = c.in_ok-reactor.ensures in
    let kind = kind_entry action_code c.kind_at.ensures found.within.1.0.0 in
    recorded _ _ c.requires _ _ found tt refl cc
