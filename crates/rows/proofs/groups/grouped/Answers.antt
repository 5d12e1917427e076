use Rattle.std.proofs.Common.{arith}
use Rattle.std.proofs.lemmas.List.{map_push}
use Rattle.std.proofs.lemmas.List.FromFn.{map-range_with_len_more}
use Rattle.rows.proofs.groups.grouped.Goals as goal

pub loop-key-preserved : goal.loop-key-preserved
loop-key-preserved g c = rw (c.in_ok-push.ensures.items, map_push, c.loop-key.invariant, c.in_ok-with_key.ensures, map-range_with_len_more _ 0 c.loop-key.key c.loop-key.key (omega arith))
