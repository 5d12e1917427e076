use Rattle.std.proofs.Common.{length, vec_items, ◌∙◌, arith}
use Rattle.std.proofs.lemmas.Result.{IfOk-weaker}
use Rattle.levels.proofs.Back.{walk_on, walk_round, walk_ends}
use Rattle.levels.proofs.chains.Chains.circle_to.Goals as goal

pub unreachable-requires : goal.unreachable-requires
unreachable-requires c = walk_ends _ _ _ _ _ _ c.loop.invariant (omega arith)

pub loop-preserved : goal.loop-preserved
loop-preserved c = walk_on _ _ c.loop.counter _ (vec_items c.loop.path) c.loop.node _ c.as_slice.result.now _ c.as_slice.ensures.value c.in_ok-push.ensures.items c.loop.invariant c.len-end.ensures.edges_within c.looped_before-node.ensures.edge c.looped_before-node.ensures.looped c.in_default.ensures

pub returns-in-Some : goal.returns-in-Some
returns-in-Some c =
    IfOk-weaker c.turned.result _ _
    (λ v e. walk_round c.args.self.now.graph (length c.args.self.now.graph) c.loop.counter (vec_items c.args.self.now.numbers) (vec_items c.loop.path) c.loop.node c.looped_before-node.result c.in-Some.from c.as_slice.result.now c.as_slice-in-Some.result.now (vec_items v) c.as_slice.ensures.value (c.as_slice-in-Some.ensures.value ∙ c.in_ok-push.ensures.items) c.loop.invariant c.looped_before-node.ensures.edge c.in-Some.ensures e)
    c.turned.ensures
