use Rattle.std.proofs.Common.{rules}
use Rattle.outline.specs.Telling.{as_read}
use Rattle.outline.proofs.Orphans.{orphaned, unmarked}
use Rattle.outline.proofs.progress.Progress.read_here.Goals as goal
use Rattle.outline.proofs.progress.Progress.read_here.Goals.{in_default-via-in-Err+in_default, in_default-via-in_default}

pub returns-in-Err-UnknownMark : goal.returns-in-Err-UnknownMark
returns-in-Err-UnknownMark c = unmarked _ _ _ c.read-answer.result c.read-answer.ensures.answer (search rules)

pub returns-in_default : goal.returns-in_default
returns-in_default c =
    orphaned _ _ _ c.read-answer.result c.read-answer.ensures.answer c.read-answer.ensures.one_answer
    (elim c.in_default.branch [ in_default-via-in-Err+in_default w ↦ search rules | in_default-via-in_default w ↦ search rules ])
    (search rules)

pub returns-in_default-2 : goal.returns-in_default-2
returns-in_default-2 c = as_read _ c.read-answer.ensures.answer (search rules)
