use Rattle.std.proofs.Common.{◌≡◌, ℕ, List, None, Ok, sym, rules}
use Rattle.std.proofs.lemmas.Result.{err_from_is_err_and}
use Rattle.lines.specs.Reading.{Reading}
use Rattle.lines.specs.declared.records.Record.{Record}
use Rattle.lines.specs.declared.section.Section.TheVariants.{Network}
use Rattle.network.specs.Assembling.{Declares, unread}
use Rattle.network.specs.Saying.{declares}
use Rattle.network.proofs.Acceptance.{taken, led}
use Rattle.network.proofs.Meanings.{one_meaning}
use Rattle.network.proofs.assembly.Assembly.add.Goals as goal

-- what a network's line says is a declaration
declares_something : (line : List ℕ) (said : Record) → Reading Network line (Ok said) → declares said ≡ None → ⊥
declares_something line said reading nothing = search rules

pub unreachable-requires : goal.unreachable-requires
unreachable-requires c = declares_something _ _ c.in_ok-said.ensures.answer (sym c.in_default.ensures)

pub returns-in_err-said : goal.returns-in_err-said
returns-in_err-said c =
    let p = err_from_is_err_and c.from_residual.result c.from_residual.ensures.1 in
    record { takes = rw (p.1, p.2) (unread _ c.in_err-said.ensures.answer); leads = rw p.1 (λ ls so. so); one_meaning = one_meaning c.in_err-said.ensures.one_answer }

pub returns : goal.returns
returns c =
    let says : Declares c.args.line.now c.in-Some.declaration = record { said = c.in_ok-said.said; read = c.in_ok-said.ensures.answer; meant = sym c.in-Some.ensures } in
    let takes = rw c.self.view_is at (taken _ _ c.args.line.now c.in-Some.declaration c.declare.result says c.declare.ensures) in
    record { takes = takes; leads = led _ _ _ _ takes; one_meaning = one_meaning c.in_ok-said.ensures.one_answer }
