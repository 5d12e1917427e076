-- Accepted lines declare one thing.
use Rattle.std.proofs.Common.{◌≡◌, ℕ, zero, suc, Bool, cond, ◌&&◌, eqb, ltb, codes, List, get_or, map, ℤ, pos, negsuc, Some, None, Ok, Option, inl, ◌⊎◌, refl, ap}
use Rattle.lines.specs.Marks.{letters}
use Rattle.lines.specs.Reading.{OneAnswer}
use Rattle.lines.specs.Records.{mark_of, fields_of, action_code, connection_code, trigger_code}
use Rattle.lines.specs.Texts.{Entry}
use Rattle.lines.specs.declared.records.ActionKind.{ActionKind}
use Rattle.lines.specs.declared.records.ActionKind.TheVariants.{Logical, Physical}
use Rattle.lines.specs.declared.records.ConnectionKind.{ConnectionKind}
use Rattle.lines.specs.declared.records.ConnectionKind.TheVariants.{Undelayed, Delayed}
use Rattle.lines.specs.declared.records.Record.{Record}
use Rattle.lines.specs.declared.records.Record.TheVariants.{Reactor, Input, Output, Timer, Action, Connection, Reaction, Trigger, Write, Schedule, Stop, Bytecode, Instruction, Table, Row, Start, Offer, Advance}
use Rattle.lines.specs.declared.records.TriggerKind.{TriggerKind}
use Rattle.lines.specs.declared.records.TriggerKind.TheVariants as trigger
use Rattle.lines.specs.declared.section.Section.TheVariants as section
use Rattle.network.specs.Assembling.{Declares, Lead, none, more, OneMeaning}
use Rattle.network.specs.Saying.{declares}
use Rattle.network.specs.Tables.{Parts, no_parts, declare}
use Rattle.network.specs.declared.parts.Declaration.{Declaration}
use Rattle.network.specs.declared.parts.Declaration.TheVariants as declaration
use Rattle.network.specs.declared.parts.TargetKind.TheVariants as target

abbrev natural : ℤ → ℕ
natural (pos n) = n
natural (negsuc n) = n

-- the number of a field
abbrev at : List Entry → ℕ → ℕ
at es k = natural (get_or (map (λ e. e.number) es) k (pos 0))

-- the kinds that numbers stand for
abbrev action_kind : ℕ → ActionKind
action_kind zero = Logical
action_kind (suc n) = Physical

abbrev connection_kind : ℕ → ConnectionKind
connection_kind zero = Undelayed
connection_kind (suc n) = Delayed

abbrev trigger_kind : ℕ → TriggerKind
trigger_kind zero = trigger.Input
trigger_kind (suc zero) = trigger.Timer
trigger_kind (suc (suc zero)) = trigger.Action
trigger_kind (suc (suc (suc n))) = trigger.ReadInput

action_kind-code : (k : ActionKind) → action_kind (action_code k) ≡ k
action_kind-code Logical = refl
action_kind-code Physical = refl

connection_kind-code : (k : ConnectionKind) → connection_kind (connection_code k) ≡ k
connection_kind-code Undelayed = refl
connection_kind-code Delayed = refl

trigger_kind-code : (k : TriggerKind) → trigger_kind (trigger_code k) ≡ k
trigger_kind-code trigger.Input = refl
trigger_kind-code trigger.Timer = refl
trigger_kind-code trigger.Action = refl
trigger_kind-code trigger.ReadInput = refl

abbrev are : List ℕ → List ℕ → Bool
are xs ys = eqb (get_or xs 0 0) (get_or ys 0 0) && eqb (get_or xs 1 0) (get_or ys 1 0)

-- what a mark of these letters with these fields declares
unfoldable meant_by : List ℕ → List Entry → Option Declaration
meant_by l es =
    cond (are l (codes "RE")) (Some declaration.Reactor) (
    cond (are l (codes "IP")) (Some (declaration.Input (at es 0))) (
    cond (are l (codes "OP")) (Some (declaration.Output (at es 0))) (
    cond (are l (codes "TI")) (Some (declaration.Timer (record { reactor = at es 0; first = at es 1; period = at es 2 }))) (
    cond (are l (codes "AC")) (Some (declaration.Action (record { reactor = at es 0; kind = action_kind (at es 1); delay = at es 2 }))) (
    cond (are l (codes "CN")) (Some (declaration.Connection (record { output = at es 0; input = at es 1; kind = connection_kind (at es 2); delay = at es 3 }))) (
    cond (are l (codes "RX")) (cond (ltb (at es 1) 256) (Some (declaration.Reaction (record { reactor = at es 0; body = at es 1 }))) None) (
    cond (are l (codes "TR")) (Some (declaration.Trigger (record { reaction = at es 0; kind = trigger_kind (at es 1); source = at es 2 }))) (
    cond (are l (codes "WR")) (Some (declaration.Target (record { reaction = at es 0; kind = target.Output; number = at es 1 }))) (
    cond (are l (codes "SC")) (Some (declaration.Target (record { reaction = at es 0; kind = target.Action; number = at es 1 }))) (
    cond (are l (codes "EN")) (Some (declaration.Stop (at es 0))) None))))))))))

by_fields : (r : Record) → declares r ≡ meant_by (letters (mark_of r)) (fields_of r)
unfolding meant_by
by_fields Reactor = refl
by_fields (Input r) = refl
by_fields (Output r) = refl
by_fields (Timer r o p) = refl
by_fields (Action r k d) = simp action_kind-code
by_fields (Connection o i k d) = simp connection_kind-code
by_fields (Reaction r b) = refl
by_fields (Trigger x k n) = simp trigger_kind-code
by_fields (Write x n) = refl
by_fields (Schedule x n) = refl
by_fields (Stop t) = refl
by_fields Bytecode = refl
by_fields (Instruction p a b k) = refl
by_fields Table = refl
by_fields (Row s c n j v) = refl
by_fields (Start c p q) = refl
by_fields (Offer a t v) = refl
by_fields (Advance u n) = refl

inl_pair : {A B C : Type 0} (a x : A) (b y : B) → ◌≡◌ {A = A × B ⊎ C} (inl (a, b)) (inl (x, y)) → (a ≡ x) × (b ≡ y)
inl_pair {A} {B} a x b y e = let pair : ◌≡◌ {A = A × B} (a, b) (x, y) = cc in (ap (λ p. p.0) pair, ap (λ p. p.1) pair)

-- a line declares one thing
declares_one : OneAnswer → (line : List ℕ) (d e : Declaration) → Declares line d → Declares line e → d ≡ e
declares_one law line d e p q =
    let same = inl_pair _ _ _ _ (law section.Network line (Ok p.said) (Ok q.said) p.read q.read) in
    cc (by_fields p.said, by_fields q.said)

lead_one : OneAnswer → (from : Parts) {p q : Parts} {ls : List (List ℕ)} → Lead from ls p → Lead from ls q → p ≡ q
lead_one law from none none = refl
lead_one law from (more line d says free rest) (more again e also may onward) = lead_one law (declare from d) rest (rw (declares_one law line d e says also) onward)

pub one_meaning : OneAnswer → OneMeaning
one_meaning law ls p q so also = lead_one law no_parts so also
