use Rattle.std.proofs.Common.{◌≡◌, ◌-◌, ℤ, length, take, drop, to_z, of_z, sym, subst, refl, arith, rules}
use Rattle.std.specs.Int.{w128}
use Rattle.std.proofs.lemmas.Int.{ints}
use Rattle.lines.specs.Steps.{NumberAt}
use Rattle.lines.proofs.Digits.{front}
use Rattle.lines.proofs.Rows.{no_minus, takes}
use Rattle.lines.proofs.cursor.Cursor.next.Goals as goal
use Rattle.lines.proofs.cursor.Cursor.next.Goals.{else-value-lt0-via-then-value-lt0+else-not-may_be_negative, else-value-lt0-via-else-value-lt0}

pub returns-then-not-may_be_negative : goal.returns-then-not-may_be_negative
returns-then-not-may_be_negative c =
    rw (← c.rest.ensures) (no_minus _ _ c.args.kind (front _ 32 (search rules) (search rules)) _ _ c.in_ok-value.ensures (omega (arith, ints)) (sym c.if-not-may_be_negative.ensures))

pub returns : goal.returns
returns c =
    let rest = c.rest.result.now in
    let number = c.in_ok-value.field-0.value in
    let same : number ≡ to_z w128 (of_z w128 number) = omega (arith, ints) in
    takes _ _ c.args.kind (front rest 32 (search rules) (search rules)) c.args.self.now _ _ (sym c.rest.ensures)
    (subst (λ (z : ℤ). NumberAt (take (length rest - 1) (drop 1 rest)) z c.in_ok-value.field-0.len) same c.in_ok-value.ensures)
    (λ below. elim c.else-value-lt0.branch [
      | else-value-lt0-via-then-value-lt0+else-not-may_be_negative w ↦ sym w.if-not-may_be_negative.ensures
      | else-value-lt0-via-else-value-lt0 w ↦ absurd (omega (arith, ints))
    ])
    refl refl refl
