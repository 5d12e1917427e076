use Rattle.std.proofs.Common.{refl, ap}
use Rattle.std.proofs.lemmas.Bool.{false≢true}
use Rattle.lines.specs.Fields.{Undelayed}
use Rattle.lines.specs.Records.{connection_code}
use Rattle.lines.proofs.Decoding.{connection_known, kind_entry, decided_at}
use Rattle.lines.proofs.Readings.{recorded, disagrees}
use Rattle.lines.proofs.declarations.connection.Goals as goal

pub kind_at-kind-requires-clause-known : goal.kind_at-kind-requires-clause-known
kind_at-kind-requires-clause-known c = connection_known _ c.in_ok-output.ensures.within.1.1.0

pub returns-then-not-delay_fits : goal.returns-then-not-delay_fits
returns-then-not-delay_fits c =
    let found = c.in_ok-output.ensures in
    let kind = kind_entry connection_code c.kind_at-kind.ensures found.within.1.1.0.0 in
    disagrees _ _ c.requires _ found (λ agree. false≢true ((decided_at Undelayed _ _ _ _ _ c.if-not-delay_fits.ensures (ap (λ e. e.number) kind) (ap (λ e. e.number) c.number_at-delay.ensures)).1 agree))

pub returns : goal.returns
returns c =
    let found = c.in_ok-output.ensures in
    let kind = kind_entry connection_code c.kind_at-kind.ensures found.within.1.1.0.0 in
    let agree = (decided_at Undelayed _ _ _ _ _ c.if-not-delay_fits.ensures (ap (λ e. e.number) kind) (ap (λ e. e.number) c.number_at-delay.ensures)).0 refl in
    recorded _ _ c.requires _ _ found agree refl cc
