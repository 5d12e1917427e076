use Rattle.std.proofs.Common.{rules, length, refl, arith}
use Rattle.std.specs.Iterator.Adapters.{filter_callee}
use borrow.Author.Tests.{tests}
use Rattle.std.proofs.lemmas.Iterator.{YieldsList-from_range, items_from_collect}
use Rattle.std.proofs.lemmas.Iterator.Adapters.{YieldsList-from_flat_map}
use Rattle.std.proofs.lemmas.Iterator.Consumers.{YieldsList-from_filter}
use Rattle.levels.specs.Ordered.{at_level}
use Rattle.levels.proofs.order.order_of.Goals as goal

pub returns : goal.returns
returns c =
    items_from_collect _ c.collect.ensures.ran
    (YieldsList-from_flat_map _ _ _ _ (at_level c.args.levels.now) _
    (λ x u q k. (search rules, λ j is. YieldsList-from_filter _ _ {f = filter_callee j} (YieldsList-from_range 0 (length c.args.levels.now) (length c.args.levels.now) (search rules) (omega arith)) refl (λ y b q' k'. search (rules, tests))))
    (YieldsList-from_range 0 (length c.args.levels.now) (length c.args.levels.now) (cc) (omega arith)) c.flat_map.ensures.closure c.flat_map.ensures.front c.flat_map.ensures.back c.flat_map.ensures.done)
