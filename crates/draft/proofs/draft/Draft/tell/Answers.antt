use Rattle.std.proofs.Common.{rules, refl}
use Rattle.draft.specs.Drafting.{elsewhere, accepted}
use Rattle.draft.proofs.Passing.{passed_unread, passed_not_taken}
use Rattle.draft.proofs.draft.Draft.tell.Goals as goal
use Rattle.draft.proofs.draft.Draft.tell.Goals.{then-is_networks+in_ok-add, else-is_networks}

pub returns-in_err-declared-clause-told : goal.returns-in_err-declared-clause-told
returns-in_err-declared-clause-told c = passed_unread _ _ _ c.in_err-declared.field-0.0 c.from_residual.ensures.1 (search rules)

pub returns-in_err-add-clause-told : goal.returns-in_err-add-clause-told
returns-in_err-add-clause-told c =
    passed_not_taken _ _ _ _ c.in_ok-declared.declared c.tell.new.self c.in_err-add.field-0.0
    c.from_residual-in_err-add.ensures.1 c.in_ok-declared.ensures (search rules) c.in_err-add.ensures.takes refl

pub returns-clause-told : goal.returns-clause-told
returns-clause-told c =
    elim c.if-is_networks.branch [
      | then-is_networks+in_ok-add w ↦ rw w.self-is (accepted _ c.in_ok-declared.ensures (search rules) w.in_ok-add.ensures.takes)
      | else-is_networks w ↦ rw w.self-is (elsewhere _ c.in_ok-declared.ensures (search rules) refl)
    ]
