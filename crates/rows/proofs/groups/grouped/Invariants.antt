use Rattle.std.proofs.Common.{◌≡◌, map, vec_items}
use Rattle.rows.specs.Rows.{by_key}
use Rattle.rows.proofs.groups.grouped.Given as goal

abbrev pub invariant-loop-key : goal.invariant-loop-key
invariant-loop-key g l = map vec_items (vec_items l.groups) ≡ by_key g.T.Keyed.key_of l.key l.rows
