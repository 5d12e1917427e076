-- What a list of lines declares, and what adding one more answers.
use Rattle.std.specs.Prelude.{◌≡◌, ℕ, List, [], ◌∷◌, Some, None, Ok, Err, Result}
use Rattle.std.specs.declared.alloc.AllocError.{AllocError}
use Rattle.lines.specs.Reading.{Reading}
use Rattle.lines.specs.declared.records.Record.{Record}
use Rattle.lines.specs.declared.section.Section.TheVariants.{Network}
use Rattle.refusals.specs.declared.refusal.Refusal.{Refusal}
use Rattle.network.specs.Rules.{refusal}
use Rattle.network.specs.Saying.{declares}
use Rattle.network.specs.Tables.{Parts, no_parts, declare}
use Rattle.refusals.specs.declared.error.BuildError.{BuildError}
use Rattle.refusals.specs.declared.error.BuildError.TheVariants.{Refused, NoMemory}
use Rattle.network.specs.declared.parts.Declaration.{Declaration}

-- a line of a network declares this
pub record Declares (line : List ℕ) (d : Declaration) : Type 0 where
  pub said : Record
  pub read : Reading Network line (Ok said)
  pub meant : declares said ≡ Some d

-- lines, each accepted in turn, lead from some parts to others
pub data Lead : Parts → List (List ℕ) → Parts → Type 0 where
  none : {p : Parts} → Lead p [] p
  more : {p q : Parts} {ls : List (List ℕ)} (line : List ℕ) (d : Declaration) → Declares line d → refusal p d ≡ None → Lead (declare p d) ls q → Lead p (line ∷ ls) q

-- these parts are what these accepted lines declare
abbrev pub Assembled : List (List ℕ) → Parts → Type 0
Assembled ls p = Lead no_parts ls p

-- accepted lines declare one thing: the parts are a function of them
abbrev pub OneMeaning : Type 0
OneMeaning = (ls : List (List ℕ)) (p q : Parts) → Assembled ls p → Assembled ls q → p ≡ q

-- a line is accepted exactly where it reads as a declaration that nothing refuses and memory is found; else its refusal is the lowest that holds, and the parts stay
pub data Takes (from : Parts) (line : List ℕ) : Result (Unit {0}) BuildError → Parts → Type 0 where
  accepted : (d : Declaration) → Declares line d → refusal from d ≡ None → Takes from line (Ok tt) (declare from d)
  unread : (e : Refusal) → Reading Network line (Err e) → Takes from line (Err (Refused e)) from
  refused : (d : Declaration) (e : Refusal) → Declares line d → refusal from d ≡ Some e → Takes from line (Err (Refused e)) from
  no_memory : (d : Declaration) (e : AllocError) → Declares line d → refusal from d ≡ None → Takes from line (Err (NoMemory e)) from
