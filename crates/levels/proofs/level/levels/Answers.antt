use Rattle.std.proofs.Common.{◌≡◌, ℕ, map, vec_items, Err, sym, ap, ◌∙◌, subst, rules, arith}
use Rattle.std.proofs.lemmas.Grind.{common_steps}
use Rattle.levels.specs.Ordered.{Ordered, by_level}
use Rattle.levels.specs.Rounds.{AllBelow, EdgesWithin}
use Rattle.levels.specs.declared.error.LevelsError.TheVariants.{NoNode}
use Rattle.levels.proofs.Acyclic.{levelled}
use Rattle.levels.proofs.Ordering.{by_level_ordered}
use Rattle.levels.proofs.Rounds.{edges_within_lem}
use Rattle.levels.proofs.level.levels.Goals as goal

pub returns-in_err-graph : goal.returns-in_err-graph
returns-in_err-graph c =
    let not_within : EdgesWithin c.args.graph.now → ⊥ = search rules in
    let is : c.from_residual.result ≡ Err NoNode = grind (arith, common_steps) in
    rw is (λ edges. not_within (edges_within_lem c.args.graph.now edges))

pub returns : goal.returns
returns c =
    let numbers = vec_items c.in_ok-chains.chains.numbers in
    let graph : c.in_ok-chains.chains.graph ≡ map vec_items c.args.graph.now = search rules in
    let short = c.in_default.ensures in
    let so = c.in_ok-chains.chains.are_longest in
    let is : vec_items c.in_ok-order.order ≡ by_level numbers = c.in_ok-order.ensures ∙ ap by_level c.as_slice.ensures.value in
    rw (← graph) (levelled _ numbers so short, subst (Ordered numbers) (sym is) (by_level_ordered numbers (subst (λ (n : ℕ). AllBelow n numbers) (sym so.size) short)), is)
