use Rattle.std.proofs.Common.{map, vec_items, ap, ◌∙◌, subst}
use Rattle.levels.specs.Answering as levels
use Rattle.levels.specs.Answering.{Levels}
use Rattle.network.specs.Held.{held}
use Rattle.precedence.specs.Tests.{graph}
use Rattle.precedence.proofs.Levelling.{holds, means, possible, told_err, told_ok}
use Rattle.precedence.proofs.precedence.Precedence.of.Goals as goal

pub map_err-requires : goal.map_err-requires
map_err-requires c =
    λ e is. possible (held c.args.tables.now) _ e (ap (map vec_items) c.as_slice.ensures.value ∙ c.in_ok-predecessors.ensures) (subst (levels.Answers (map vec_items c.as_slice.result.now)) is c.levels.ensures)

pub returns-in_err-levelled : goal.returns-in_err-levelled
returns-in_err-levelled c =
    told_err (held c.args.tables.now) _ c.levels.result c.map_err.result _ _ (ap (map vec_items) c.as_slice.ensures.value ∙ c.in_ok-predecessors.ensures) c.levels.ensures c.map_err.ensures.cases c.in_err-levelled.was c.from_residual-in_err-levelled.ensures.1

pub returns : goal.returns
returns c =
    let p = held c.args.tables.now in
    let so = told_ok p _ c.levels.result c.map_err.result c.in_ok-levelled.levelled c.levels.ensures c.map_err.ensures.cases c.in_ok-levelled.was in
    let numbers : Levels (graph p) (vec_items c.in_ok-levelled.levelled.levels) = subst (λ g. Levels g (vec_items c.in_ok-levelled.levelled.levels)) (ap (map vec_items) c.as_slice.ensures.value ∙ c.in_ok-predecessors.ensures) so.0 in
    let all = holds p _ c.in_ok-index.ensures c.in_ok-predecessors.ensures numbers so.2 in
    (all, means p all.no_circle)
