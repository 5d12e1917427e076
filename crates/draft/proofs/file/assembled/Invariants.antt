use Rattle.draft.specs.Drafting.{Files}
use Rattle.draft.specs.declared.draft.Draft.{Draft}
use Rattle.draft.proofs.file.assembled.Given as goal

-- whatever the lines that are left lead to, the whole input does
abbrev pub invariant-loop-line : goal.invariant-loop-line
invariant-loop-line l = (end : Draft) → Files l.draft l.line-iterator end → Files l.initial.draft l.input end
