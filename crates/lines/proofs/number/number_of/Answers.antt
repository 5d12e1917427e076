use Rattle.std.proofs.Common.{arith}
use Rattle.lines.proofs.Digits.{step}
use Rattle.lines.proofs.number.number_of.Goals as goal

pub overflow_mul-n : goal.overflow_mul-n
overflow_mul-n c = let s = step _ _ c.requires c.loop-d-test.true in omega arith
