use Rattle.std.proofs.Common.{◌≡◌, length, take}
use Rattle.lines.proofs.Rows.{Sofar}
use Rattle.lines.proofs.fields.tokens.Given as goal

abbrev pub invariant-loop-i : goal.invariant-loop-i
invariant-loop-i g l = Sofar l.line l.kinds l.i (take l.i l.found) l.cursor × (length l.found ≡ g.row.N)
