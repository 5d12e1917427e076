use Rattle.std.proofs.Common.{◌+◌, ◌%◌, ◌^◌, ◌==◌, cond, ◌∙◌, arith, rules, tests}
use Rattle.std.proofs.lemmas.Iterator.{YieldsList-from_slice}
use Rattle.std.proofs.lemmas.Iterator.Consumers.{fold_from_yields_List}
use Rattle.network.proofs.Counting.{counted}
use Rattle.network.proofs.checks.count_with_key.Goals as goal

pub returns : goal.returns
returns g c =
    let short = c.iter.ensures.bound in
    let long = c.iter.ensures.len in
    fold_from_yields_List _ (λ n row. (n + cond (g.T.Keyed.key_of row == c.args.key) 1 0) % 2 ^ 64) _ c.fold.result c.fold.ensures.ran (YieldsList-from_slice c.args.rows.now c.iter.ensures.rest) (λ a x b q k. search (rules, tests))
    ∙ counted (λ row. g.T.Keyed.key_of row == c.args.key) c.args.rows.now (omega arith)
