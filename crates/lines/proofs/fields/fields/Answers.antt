use Rattle.std.proofs.Common.{refl, arith}
use Rattle.std.proofs.lemmas.Bool.{false≢true}
use Rattle.lines.specs.Steps.{malformed, out_of_range}
use Rattle.lines.proofs.Rows.{listed_all}
use Rattle.lines.proofs.fields.fields.Goals as goal

pub returns-in_default : goal.returns-in_default
returns-in_default g c = malformed c.in_default.ensures

pub returns-then-not-all_within : goal.returns-then-not-all_within
returns-then-not-all_within g c = out_of_range _ c.in-Some.ensures.whole c.in-Some.ensures.written (λ each. false≢true (c.if-not-all_within.ensures.1 each))

pub returns : goal.returns
returns g c = rw (listed_all g.row.N c.in-Some.tokens (omega arith)) record { row = c.in-Some.ensures; within = c.if-not-all_within.ensures.0 refl }
