-- What is said of the next line of a file, with a network beside it.
use Rattle.std.specs.Prelude.{◌≡◌, ◌≢◌, ℕ, List, [], Ok, Err, Result}
use Rattle.std.specs.declared.alloc.AllocError.{AllocError}
use Rattle.input.specs.Split.{FirstLine}
use Rattle.lines.specs.Records.{mark_of}
use Rattle.lines.specs.Sections.{home}
use Rattle.lines.specs.declared.records.Record.{Record}
use Rattle.lines.specs.declared.section.Section.TheVariants.{Setup, Network}
use Rattle.network.specs.Assembling.{Takes}
use Rattle.network.specs.Held.{held}
use Rattle.network.specs.Tables.{no_parts}
use Rattle.network.specs.declared.assembly.Assembly.{Assembly}
use Rattle.outline.specs.Counting.{no_counts}
use Rattle.outline.specs.Telling.{Tells}
use Rattle.outline.specs.declared.declared.Declared.{Declared}
use Rattle.outline.specs.declared.progress.Progress.{Progress}
use Rattle.refusals.specs.declared.error.BuildError.{BuildError}
use Rattle.refusals.specs.declared.error.BuildError.TheVariants.{Refused, NoMemory}
use Rattle.refusals.specs.declared.refusal.Refusal.{Refusal}
use Rattle.draft.specs.declared.draft.Draft.{Draft}

-- a record of the network, and not of a body or of a run
abbrev pub IsNetworks : Record → Type 0
IsNetworks r = home (mark_of r) ≡ Network

-- a line is told as it stands; one of the network is also taken into it, and where that refuses it, it is refused and nothing changes
pub data Drafts (from : Draft) (line : List ℕ) (to : Draft) : Result Declared BuildError → Type 0 where
  elsewhere : (d : Declared) → Tells from.progress line to.progress (Ok d) → (IsNetworks d.record → ⊥) → held to.assembly ≡ held from.assembly → Drafts from line to (Ok d)
  accepted : (d : Declared) → Tells from.progress line to.progress (Ok d) → IsNetworks d.record → Takes (held from.assembly) line (Ok tt) (held to.assembly) → Drafts from line to (Ok d)
  unread : (e : Refusal) → Tells from.progress line to.progress (Err e) → held to.assembly ≡ held from.assembly → Drafts from line to (Err (Refused e))
  not_taken : (d : Declared) (after : Progress) (e : BuildError) → Tells from.progress line after (Ok d) → IsNetworks d.record → Takes (held from.assembly) line (Err e) (held to.assembly) → to.progress ≡ from.progress → Drafts from line to (Err e)

-- nothing was told yet
pub record Fresh (d : Draft) : Type 0 where
  pub section : d.progress.section ≡ Setup
  pub counts : d.progress.counts ≡ no_counts
  pub parts : held d.assembly ≡ no_parts

-- a line is told, whether or not it is refused
pub record Passes (from : Draft) (line : List ℕ) (to : Draft) : Type 0 where
  pub told : Result Declared BuildError
  pub drafts : Drafts from line to told
  pub memory_found : (e : AllocError) → told ≢ Err (NoMemory e)

-- the lines of an input, told one after the other
pub data Files : Draft → List ℕ → Draft → Type 0 where
  done : {d : Draft} → Files d [] d
  next : {from to end : Draft} {input : List ℕ} (line rest : List ℕ) → FirstLine input line rest → Passes from line to → Files to rest end → Files from input end

-- what a whole input leads to
pub record Assembles (input : List ℕ) (a : Assembly) : Type 0 where
  pub start : Draft
  pub end : Draft
  pub fresh : Fresh start
  pub lines : Files start input end
  pub left : a ≡ end.assembly
