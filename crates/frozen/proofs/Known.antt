-- What a frozen network holds, taken out of its ghost field.
use mathlib.Core.HLevel.{⊥_prop}
use mathlib.Core.Logic.{∥∥₁_elim}
use base.Stored.{Coded-set, coded_list, coded_ℕ}
use Rattle.network.specs.Tables.{Parts}
use Rattle.network.specs.contracts.parts.Connection as connection
use Rattle.network.specs.contracts.parts.Target as target
use Rattle.network.specs.contracts.parts.Trigger as trigger
use Rattle.precedence.specs.Answers.{Holds}
use Rattle.precedence.specs.declared.precedence.Precedence.{Precedence}

pub known : (p : Parts) (x : Precedence) → ∥ Holds p x ∥₁ → Holds p x
known p x held =
    record {
      index = record {
        readings = ∥∥₁_elim held (Coded-set (coded_list (coded_list (trigger.the_row).coded)) _ _) (λ h. h.index.readings);
        targets = ∥∥₁_elim held (Coded-set (coded_list (coded_list (target.the_row).coded)) _ _) (λ h. h.index.targets);
        joinings = ∥∥₁_elim held (Coded-set (coded_list (coded_list (connection.the_row).coded)) _ _) (λ h. h.index.joinings);
      };
      predecessors = ∥∥₁_elim held (Coded-set (coded_list (coded_list coded_ℕ)) _ _) (λ h. h.predecessors);
      levels = ∥∥₁_elim held (Coded-set (coded_list coded_ℕ) _ _) (λ h. h.levels);
      order = ∥∥₁_elim held (Coded-set (coded_list coded_ℕ) _ _) (λ h. h.order);
      no_circle = λ circle. ∥∥₁_elim held ⊥_prop (λ h. h.no_circle circle);
    }
