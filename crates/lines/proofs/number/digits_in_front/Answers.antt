use Rattle.std.proofs.Common.{rules, tests}
use Rattle.std.specs.Char.{IsAsciiDigit, IsNotAsciiDigit}
use Rattle.std.proofs.lemmas.Iterator.{IsFirst-from_position, YieldsList-from_slice}
use Rattle.lines.proofs.Digits.{run_upto}
use Rattle.lines.proofs.number.digits_in_front.Goals as goal

pub returns : goal.returns
returns c =
    let first = IsFirst-from_position _ _ c.position.result IsNotAsciiDigit IsAsciiDigit c.position.ensures.ran (YieldsList-from_slice c.args.text.now cc) (λ x q k. search (rules, tests)) (λ x q k. search (rules, tests)) in
    rw c.unwrap_or.ensures (run_upto c.args.text.now c.position.result first)
