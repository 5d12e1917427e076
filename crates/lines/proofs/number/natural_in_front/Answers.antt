use Rattle.std.proofs.Common.{rules}
use Rattle.lines.proofs.Digits.{natural_some}
use Rattle.lines.proofs.number.natural_in_front.Goals as goal

pub returns : goal.returns
returns c = natural_some _ _ _ c.digits_in_front.ensures (search rules) c.number_of.ensures
