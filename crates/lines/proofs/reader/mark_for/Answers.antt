use Rattle.std.proofs.Common.{sym, subst}
use Rattle.std.proofs.lemmas.Bool.{false≢true}
use Rattle.lines.specs.Reading.{no_mark}
use Rattle.lines.specs.Sections.{MayCome}
use Rattle.lines.proofs.Readings.{same_front}
use Rattle.lines.proofs.reader.mark_for.Goals as goal

pub returns-in_default : goal.returns-in_default
returns-in_default c = no_mark (λ m may b. false≢true (c.if-takes.ensures.1 (subst (MayCome c.args.section) (sym (same_front _ _ _ c.in-Some.ensures b)) may)))

pub returns-in_default-2 : goal.returns-in_default-2
returns-in_default-2 c = no_mark (λ m may b. c.in_default.ensures m b)
