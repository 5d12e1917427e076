use Rattle.std.proofs.Common.{◌≡◌, false, map, sym, ◌∙◌}
use Rattle.precedence.specs.Tests.{earlier}
use Rattle.precedence.proofs.predecessors.Indexed.precedes.Goals as goal

pub returns-else-is_earlier : goal.returns-else-is_earlier
returns-else-is_earlier c =
    let later : earlier (map (λ x. x.reactor) c.args.self.now.reactions.now) c.args.a c.args.b ≡ false = sym c.is_earlier.ensures ∙ c.if-is_earlier.false in
    rw later (cc)
