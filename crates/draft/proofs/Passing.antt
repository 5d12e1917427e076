-- An error passed on with `?`, and what it says of the line.
use Rattle.std.proofs.Common.{◌≡◌, ℕ, List, Ok, Err, Result, refl}
use Rattle.std.specs.Result.{IsErrAnd}
use Rattle.network.specs.Assembling.{Takes}
use Rattle.network.specs.Held.{held}
use Rattle.outline.specs.Telling.{Tells}
use Rattle.outline.specs.declared.declared.Declared.{Declared}
use Rattle.outline.specs.declared.progress.Progress.{Progress}
use Rattle.refusals.specs.declared.error.BuildError.{BuildError}
use Rattle.refusals.specs.declared.error.BuildError.TheVariants.{Refused}
use Rattle.refusals.specs.declared.refusal.Refusal.{Refusal}
use Rattle.draft.specs.Drafting.{Drafts, IsNetworks, unread, not_taken}
use Rattle.draft.specs.declared.draft.Draft.{Draft}

pub passed_unread : (from : Draft) (line : List ℕ) (r : Result Declared BuildError) (e : Refusal) → IsErrAnd r (λ why. why ≡ Refused e) → Tells from.progress line from.progress (Err e) → Drafts from line from r
passed_unread from line (Ok d) e is tells = absurd is
passed_unread from line (Err why) e is tells = rw is (unread e tells refl)

pub passed_not_taken : (from to : Draft) (line : List ℕ) (r : Result Declared BuildError) (d : Declared) (after : Progress) (e : BuildError) → IsErrAnd r (λ why. why ≡ e) → Tells from.progress line after (Ok d) → IsNetworks d.record → Takes (held from.assembly) line (Err e) (held to.assembly) → to.progress ≡ from.progress → Drafts from line to r
passed_not_taken from to line (Ok x) d after e is tells of_network takes same = absurd is
passed_not_taken from to line (Err why) d after e is tells of_network takes same = rw is (not_taken d after e tells of_network takes same)
