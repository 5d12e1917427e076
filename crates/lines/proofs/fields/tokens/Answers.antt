use Rattle.std.proofs.Common.{◌∙◌, arith}
use Rattle.std.proofs.lemmas.List.{length-set}
use Rattle.std.proofs.lemmas.Bool.Decides.{Decides-eqb}
use Rattle.std.proofs.lemmas.Slice.Eq.{slice_eq-Decides}
use Rattle.lines.proofs.Rows.{again, ended}
use Rattle.lines.proofs.fields.tokens.Goals as goal

pub loop-i-preserved : goal.loop-i-preserved
loop-i-preserved g c =
    let few = c.loop-i.invariant.1 in
    (again _ _ _ _ _ _ c.loop-i.found _ c.loop-i.invariant.0 (omega arith) (omega arith) c.in_ok-found.ensures, length-set _ _ _ ∙ c.loop-i.invariant.1)

pub returns : goal.returns
returns g c =
    let few = c.loop-i.invariant.1 in
    rw c.then_some.ensures (ended _ _ _ _ _ _ c.loop-i.invariant.0 (omega arith) (omega arith) (rw (← c.rest.ensures, ← c.as_slice.ensures) (slice_eq-Decides Decides-eqb _ _ _ c.eq.ensures)))
