use Rattle.std.proofs.Common.{length, vec_items, rules, arith}
use Rattle.levels.proofs.Rounds.{small_enough, next_longest, longest_settled}
use Rattle.levels.proofs.chains.Chains.of.Goals as goal

pub next_round-requires-clause-small : goal.next_round-requires-clause-small
next_round-requires-clause-small c = rw c.as_slice.ensures.value (small_enough _ _ c.loop.counter _ _ c.loop.invariant (omega arith))

pub loop-preserved : goal.loop-preserved
loop-preserved c = next_longest c.args.graph c.loop.counter c.as_slice.result.now (vec_items c.loop.numbers) _ c.as_slice.ensures.value c.len-nodes.ensures.edges_within c.loop.invariant c.in_ok-next.ensures

pub invariant_of-result : goal.invariant_of-result
invariant_of-result c =
    let next = next_longest c.args.graph c.loop.counter c.as_slice.result.now (vec_items c.loop.numbers) (vec_items c.in_ok-next.next) c.as_slice.ensures.value c.len-nodes.ensures.edges_within c.loop.invariant c.in_ok-next.ensures in
    record { are_longest = longest_settled c.args.graph (length c.args.graph) c.loop.counter (length c.args.graph) (vec_items c.loop.numbers) _ c.len-nodes.ensures.edges_within c.loop.invariant next (search rules) (omega arith) }
