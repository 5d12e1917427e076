use Rattle.std.proofs.Common.{refl}
use Rattle.lines.specs.Records.{picker_code, queue_code}
use Rattle.lines.proofs.Decoding.{picker_known, queue_known, kind_entry}
use Rattle.lines.proofs.Readings.{recorded}
use Rattle.lines.proofs.run.start.Goals as goal

pub kind_at-requires-clause-known : goal.kind_at-requires-clause-known
kind_at-requires-clause-known c = picker_known _ c.in_ok-capacity.ensures.within.1.0

pub kind_at-requires-2-clause-known : goal.kind_at-requires-2-clause-known
kind_at-requires-2-clause-known c = queue_known _ c.in_ok-capacity.ensures.within.1.1.0

pub returns : goal.returns
returns c =
    let found = c.in_ok-capacity.ensures in
    let picker = kind_entry picker_code c.kind_at.ensures found.within.1.0.0 in
    let queue = kind_entry queue_code c.kind_at-2.ensures found.within.1.1.0.0 in
    recorded _ _ c.requires _ _ found tt refl cc
