use Rattle.std.proofs.Common.{ℕ, ◌-◌, length, take, drop, pos, subst, arith, rules}
use Rattle.std.proofs.lemmas.Int.{ints}
use Rattle.lines.specs.Steps.{NumberAt}
use Rattle.lines.proofs.Digits.{minus_none, minus_zero, minus_some, front}
use Rattle.lines.proofs.number.integer_in_front.Goals as goal

pub returns-in_err-value-in-45 : goal.returns-in_err-value-in-45
returns-in_err-value-in-45 c = rw c.from_residual.ensures (minus_none c.args.text.now _ (front _ 45 (search rules) (search rules)) c.in_err-value-in-45.ensures)

pub returns-then-value-eq0 : goal.returns-then-value-eq0
returns-then-value-eq0 c =
    minus_zero c.args.text.now _ (front _ 45 (search rules) (search rules)) c.in_ok-value-in-45.field-0.len
    (subst (λ (n : ℕ). NumberAt (take (length c.args.text.now - 1) (drop 1 c.args.text.now)) (pos n) c.in_ok-value-in-45.field-0.len) c.if-value-eq0.true c.in_ok-value-in-45.ensures)

pub returns-else-value-eq0 : goal.returns-else-value-eq0
returns-else-value-eq0 c = minus_some c.args.text.now _ (front _ 45 (search rules) (search rules)) _ _ _ (omega (arith, ints)) c.in_ok-value-in-45.ensures c.if-value-eq0.false
