-- Ranges of the fields of a line.
use Rattle.std.proofs.Common.{◌≡◌, ℕ, zero, suc, ◌<◌, Bool, true, false, List, [], ◌∷◌, length, Decides, MatchBool, refl, arith}
use Rattle.std.specs.List.{zip, AllWithin, HoldsAt}
use Rattle.std.proofs.lemmas.Bool.{false≢true}
use Rattle.lines.specs.Fields.{Within, Each}
use Rattle.lines.specs.Steps.{numbers}
use Rattle.lines.specs.declared.cursor.Token.{Token}
use Rattle.lines.specs.declared.kind.Kind.{Kind}

abbrev InRange : Kind × Token → Type 0
InRange p = Within p.0 p.1.number

each_from : (ks : List Kind) (ts : List Token) → length ks ≡ length ts → AllWithin InRange (zip ks ts) 0 (length (zip ks ts)) → Each Within ks (numbers ts)
each_from [] [] long h = tt
each_from [] (t ∷ ts) long h = absurd (omega arith)
each_from (k ∷ ks) [] long h = absurd (omega arith)
each_from (k ∷ ks) (t ∷ ts) long h =
    (h 0 (k, t) (omega arith) (omega arith), each_from ks ts (omega arith) (λ i d lo hi. h (suc i) d (omega arith) (omega arith)))

each_at : (ks : List Kind) (ts : List Token) (i : ℕ) → Each Within ks (numbers ts) → i < length (zip ks ts) → HoldsAt (λ p. InRange p → ⊥) (zip ks ts) i → ⊥
each_at [] ts i each lt out = absurd (omega arith)
each_at (k ∷ ks) [] i each lt out = absurd (omega arith)
each_at (k ∷ ks) (t ∷ ts) zero each lt out = out (k, t) each.0
each_at (k ∷ ks) (t ∷ ts) (suc i) each lt out = each_at ks ts i each.1 (omega arith) out

pub each_decided : (ks : List Kind) (ts : List Token) (r : Bool) → length ks ≡ length ts → MatchBool r (AllWithin InRange (zip ks ts) 0 (length (zip ks ts))) ((i : ℕ) × (i < length (zip ks ts)) × HoldsAt (λ p. InRange p → ⊥) (zip ks ts) i) → Decides r (Each Within ks (numbers ts))
each_decided ks ts true long h = (λ _. each_from ks ts long h, λ _. refl)
each_decided ks ts false long h = (λ e. absurd (false≢true e), λ each. absurd (each_at ks ts h.0 each h.1 h.2))
