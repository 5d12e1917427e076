-- What freezing and reading answer.
use Rattle.std.proofs.Common.{◌≡◌, ℕ, ◌<◌, ◌≤◌, List, length, get_or, Err, Option, None, Some, vec_items, sym, refl, ap, ◌∙◌, subst, arith}
use Rattle.std.specs.Option.{MatchOption}
use Rattle.std.proofs.lemmas.List.FromFn.{length-map-range_with_len}
use Rattle.levels.specs.Chains.{Level, longest}
use Rattle.levels.proofs.Along.{round_circle}
use Rattle.network.specs.Held.{held}
use Rattle.network.specs.Tables.{Parts}
use Rattle.network.specs.declared.assembly.Assembly.{Assembly}
use Rattle.precedence.specs.Answers.{Answers, Means, levels_of}
use Rattle.precedence.specs.Direct.{Directly}
use Rattle.precedence.specs.Errors.{Why}
use Rattle.precedence.specs.Tests.{graph}
use Rattle.precedence.specs.declared.error.PrecedenceError.{PrecedenceError}
use Rattle.precedence.specs.declared.error.PrecedenceError.TheVariants as error
use Rattle.refusals.specs.declared.error.BuildError.{BuildError}
use Rattle.frozen.specs.Freezing.{Circular, Freezes}
use Rattle.frozen.specs.Reading.{Leveled}

pub handed_back : (a : Assembly) (p : Parts) (e : PrecedenceError) (r : BuildError) → p ≡ held a → Answers p (Err e) → Why e r → Freezes a (Err (a, r))
handed_back a p (error.Circle v) r same round is = subst (λ (x : BuildError). Freezes a (Err (a, x))) (sym is) (refl, refl, subst Circular same (round_circle (vec_items v) round))
handed_back a p (error.NoMemory e) r same answer is = subst (λ (x : BuildError). Freezes a (Err (a, x))) (sym is) refl

size : (p : Parts) → length (levels_of p) ≡ length p.reactions
size p = length-map-range_with_len (longest (graph p) (length p.reactions)) 0 (length p.reactions)

-- what stands at a place of the levels is the level of that reaction
pub leveled : (p : Parts) (xs : List ℕ) (x : ℕ) (r : Option ℕ) → Means p → xs ≡ levels_of p → MatchOption r (length xs ≤ x) (λ n. (x < length xs) × (get_or xs x 0 ≡ n)) → Leveled p x r
leveled p xs x None means same past = let long = ap length same ∙ size p in omega arith
leveled p xs x (Some n) means same found =
    let below : x < length p.reactions = (let long = ap length same ∙ size p in let lt = found.0 in omega arith) in
    (below, subst (Level (Directly p) x) found.1 (subst (λ (ys : List ℕ). Level (Directly p) x (get_or ys x 0)) (sym same) (means.level x below)))
