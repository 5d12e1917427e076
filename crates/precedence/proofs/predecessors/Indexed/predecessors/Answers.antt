use Rattle.std.proofs.Common.{arith}
use Rattle.std.proofs.lemmas.List.{map_push}
use Rattle.std.proofs.lemmas.List.FromFn.{map-range_with_len_more}
use Rattle.precedence.proofs.predecessors.Indexed.predecessors.Goals as goal

pub loop-b-preserved : goal.loop-b-preserved
loop-b-preserved c = rw (c.in_ok-push.ensures.items, map_push, c.loop-b.invariant, c.in_ok-predecessors_of.ensures, map-range_with_len_more _ 0 c.loop-b.b c.loop-b.b (omega arith))
