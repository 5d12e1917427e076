use Rattle.std.proofs.Common.{rules, tests}
use Rattle.std.proofs.lemmas.Iterator.{cases_from_all, YieldsList-from_slice, YieldsList-from_zip}
use Rattle.lines.specs.Fields.{Within}
use Rattle.lines.proofs.Ranges.{each_decided}
use Rattle.lines.proofs.fields.all_within.Goals as goal

pub returns : goal.returns
returns c =
    let pairs = YieldsList-from_zip {s = c.zip.result} (YieldsList-from_slice c.args.kinds.now cc) (YieldsList-from_slice c.args.tokens.now cc) in
    each_decided c.args.kinds.now c.args.tokens.now c.all.result c.requires
    (cases_from_all c.all.new.self _ _ (λ p. Within p.0 p.1.number) (λ p. Within p.0 p.1.number → ⊥) c.all.ensures.ran pairs (λ x q k. search (rules, tests)) (λ x q k. search (rules, tests)))
