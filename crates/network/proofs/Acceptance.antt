-- What a line adds to what the lines before it declare.
use Rattle.std.proofs.Common.{◌≡◌, ℕ, List, [], ◌∷◌, ◌++◌, is_ok, None, Ok, Err, MatchBool, Result}
use Rattle.network.specs.Adding.{Added}
use Rattle.network.specs.Assembling.{Declares, Lead, none, more, Assembled, Takes, accepted, unread, refused, no_memory}
use Rattle.network.specs.Rules.{refusal}
use Rattle.network.specs.Tables.{Parts, declare}
use Rattle.network.specs.declared.parts.Declaration.{Declaration}
use Rattle.refusals.specs.declared.error.BuildError.{BuildError}
use Rattle.refusals.specs.declared.error.BuildError.TheVariants.{Refused, NoMemory}

pub taken : (from to : Parts) (line : List ℕ) (d : Declaration) (r : Result (Unit {0}) BuildError) → Declares line d → Added from d r to → Takes from line r to
taken from to line d (Ok tt) says added = rw added.1 (accepted d says added.0)
taken from to line d (Err (Refused e)) says added = rw added.1 (refused d e says added.0)
taken from to line d (Err (NoMemory e)) says added = rw added.1 (no_memory d e says added.0)

lead_push : {p q : Parts} {ls : List (List ℕ)} (line : List ℕ) (d : Declaration) → Lead p ls q → Declares line d → refusal q d ≡ None → Lead p (ls ++ line ∷ []) (declare q d)
lead_push line d none says free = more line d says free none
lead_push line d (more first e also may rest) says free = more first e also may (lead_push line d rest says free)

pub led : (from to : Parts) (line : List ℕ) (r : Result (Unit {0}) BuildError) → Takes from line r to → (ls : List (List ℕ)) → Assembled ls from → MatchBool (is_ok r) (Assembled (ls ++ line ∷ []) to) (Assembled ls to)
led from to line r (accepted d says free) ls so = lead_push line d so says free
led from to line r (unread e why) ls so = so
led from to line r (refused d e says bad) ls so = so
led from to line r (no_memory d e says free) ls so = so
