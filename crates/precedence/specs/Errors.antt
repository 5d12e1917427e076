-- What an error of a graph is of a network, and of what is built.
use Rattle.std.specs.Prelude.{◌≡◌}
use Rattle.levels.specs.declared.error.LevelsError.{LevelsError}
use Rattle.levels.specs.declared.error.LevelsError.TheVariants as graph
use Rattle.refusals.specs.declared.error.BuildError.{BuildError}
use Rattle.refusals.specs.declared.error.BuildError.TheVariants as build
use Rattle.refusals.specs.declared.refusal.Refusal.TheVariants as refusal
use Rattle.precedence.specs.declared.error.PrecedenceError.{PrecedenceError}
use Rattle.precedence.specs.declared.error.PrecedenceError.TheVariants as network

abbrev pub Tells : LevelsError → PrecedenceError → Type 0
Tells graph.NoNode r = ⊥
Tells (graph.Circle v) r = r ≡ network.Circle v
Tells (graph.NoMemory e) r = r ≡ network.NoMemory e

abbrev pub Why : PrecedenceError → BuildError → Type 0
Why (network.Circle v) r = r ≡ build.Refused refusal.Circle
Why (network.NoMemory e) r = r ≡ build.NoMemory e
