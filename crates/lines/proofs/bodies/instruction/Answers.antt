use Rattle.std.proofs.Common.{refl, ap, arith}
use Rattle.std.proofs.lemmas.Bool.{false≢true}
use Rattle.std.proofs.lemmas.Int.{ints}
use Rattle.lines.specs.Fields.{Operand}
use Rattle.lines.specs.Records.{opcode_number}
use Rattle.lines.proofs.Decoding.{opcode_known, kind_entry, decided_at}
use Rattle.lines.proofs.Readings.{recorded, disagrees}
use Rattle.lines.proofs.bodies.instruction.Goals as goal

pub kind_at-opcode-requires-clause-known : goal.kind_at-opcode-requires-clause-known
kind_at-opcode-requires-clause-known c = opcode_known _ c.in_ok-opcode.ensures.within.0

pub returns-then-not-operand_fits : goal.returns-then-not-operand_fits
returns-then-not-operand_fits c =
    let found = c.in_ok-opcode.ensures in
    let opcode = kind_entry opcode_number c.kind_at-opcode.ensures found.within.0.0 in
    disagrees _ _ c.requires _ found (λ agree. false≢true ((decided_at Operand _ _ _ _ _ c.if-not-operand_fits.ensures (ap (λ e. e.number) opcode) (omega (arith, ints, ap (λ e. e.number) c.value_at-operand.ensures))).1 agree))

pub returns : goal.returns
returns c =
    let found = c.in_ok-opcode.ensures in
    let opcode = kind_entry opcode_number c.kind_at-opcode.ensures found.within.0.0 in
    recorded _ _ c.requires _ _ found ((decided_at Operand _ _ _ _ _ c.if-not-operand_fits.ensures (ap (λ e. e.number) opcode) (omega (arith, ints, ap (λ e. e.number) c.value_at-operand.ensures))).0 refl) refl cc
