-- A chain with as many edges as there are nodes goes round.
use Rattle.std.proofs.Common.{◌≡◌, ◌≢◌, ℕ, suc, ◌+◌, ◌<◌, ◌≤◌, ◌⊎◌, List, [], ◌∷◌, ◌++◌, length, Contains, refl, subst, inl, inr, ⊎_elim, arith}
use Rattle.std.specs.List.{AllPairs}
use Rattle.std.proofs.lemmas.Bool.{eqb-true}
use Rattle.std.proofs.lemmas.Bool.Decides.{Decides-eqb}
use Rattle.std.proofs.lemmas.List.{length_push}
use Rattle.std.proofs.lemmas.List.Elements.{All-contains, All-nil, All-push, Contains-get_or, Contains-push_cases}
use Rattle.std.proofs.lemmas.List.Quantifiers.{all_pairs_push}
use Rattle.std.proofs.lemmas.Map.Made.{IsDistinct-from_AllPairs}
use Rattle.std.proofs.lemmas.Map.Steps.{length-le_from_distinct_below}
use Rattle.std.proofs.lemmas.Map.Views.{Contains-from_any}
use Rattle.levels.specs.Chains.{Chain, stay, step, Circle}
use Rattle.levels.specs.Rounds.{AllBelow}
use Rattle.levels.proofs.Longest.{joined}
use Rattle.levels.proofs.Members.{contains_none, contains_or_not}

-- no number stands twice
abbrev pub Apart : List ℕ → Type 0
Apart xs = AllPairs (λ x y. x ≢ y) xs

pub apart_none : Apart []
apart_none i j d lt below = absurd (omega arith)

pub apart_push : (xs : List ℕ) (a : ℕ) → Apart xs → (Contains xs a → ⊥) → Apart (xs ++ a ∷ [])
apart_push xs a apart none = all_pairs_push (λ x y. x ≢ y) xs a apart (λ k d lt e. none (subst (Contains xs) e (Contains-get_or xs k d lt)))

-- numbers below n, none twice, are at most n
pub few : (n : ℕ) (xs : List ℕ) → Apart xs → AllBelow n xs → length xs ≤ n
few n xs apart below =
    length-le_from_distinct_below xs n
    (IsDistinct-from_AllPairs Decides-eqb xs apart)
    (λ q found. All-contains (λ x. x < n) xs q below (Contains-from_any eqb-true q xs found))

-- the nodes of a chain, the first first
nodes : {E : ℕ → ℕ → Type 0} {n a b : ℕ} → Chain E n a b → List ℕ
nodes {a = a} stay = a ∷ []
nodes (step {c = c} chain edge) = nodes chain ++ c ∷ []

many : {E : ℕ → ℕ → Type 0} {n a b : ℕ} (chain : Chain E n a b) → length (nodes chain) ≡ suc n
unfolding nodes
many stay = refl
many (step {c = c} chain edge) = let long = length_push (nodes chain) c in let more = many chain in omega arith

-- the end of a chain from one of its nodes
from_node : {E : ℕ → ℕ → Type 0} {n a b : ℕ} (x : ℕ) (chain : Chain E n a b) → Contains (nodes chain) x → (m : ℕ) × Chain E m x b
unfolding nodes
from_node {E} {b = b} x stay h = ⊎_elim (λ none. absurd (contains_none x none)) (λ e. (0, subst (λ (y : ℕ). Chain E 0 y b) e stay)) (Contains-push_cases [] b x h)
from_node {E} {b = b} x (step {c = c} chain edge) h =
    ⊎_elim
    (λ k. let rest = from_node x chain k in (suc rest.0, step rest.1 edge))
    (λ e. (0, subst (λ (y : ℕ). Chain E 0 y b) e stay))
    (Contains-push_cases (nodes chain) c x h)

-- a chain comes to one of its nodes again, or all of them differ
round_or_apart : {E : ℕ → ℕ → Type 0} {n a b : ℕ} (chain : Chain E n a b) → (Circle E × ((m : ℕ) × ((n < m) × Chain E m a b))) ⊎ Apart (nodes chain)
unfolding nodes
round_or_apart {a = a} stay = inr (apart_push [] a apart_none (contains_none a))
round_or_apart {E} {a = a} (step {n = n} {b = b} {c = c} chain edge) =
    ⊎_elim
    (λ more. inl (more.0, (suc more.1.0, (let lt = more.1.1.0 in omega arith, step more.1.1.1 edge))))
    (λ apart. ⊎_elim (λ h. inl (again h)) (λ none. inr (apart_push (nodes chain) c apart none)) (contains_or_not (nodes chain) c))
    (round_or_apart chain)
  where
    again : Contains (nodes chain) c → Circle E × ((m : ℕ) × ((suc n < m) × Chain E m a c))
    again h =
        let back = from_node c chain h in (
          record { node = c; edges = back.0; chain = step back.1 edge },
          (suc n + suc back.0, (omega arith, joined (suc n) (suc back.0) a c c (step chain edge) (step back.1 edge))),
        )

-- edges join nodes below n
abbrev pub Within : (ℕ → ℕ → Type 0) → ℕ → Type 0
Within E n = (a b : ℕ) → E a b → (a < n) × (b < n)

nodes_below : {E : ℕ → ℕ → Type 0} {m a b : ℕ} (n : ℕ) → Within E n → b < n → (chain : Chain E m a b) → AllBelow n (nodes chain)
unfolding nodes
nodes_below {a = a} n within lt stay = All-push (λ x. x < n) [] a (All-nil (λ x. x < n)) lt
nodes_below n within lt (step {b = d} {c = c} chain edge) = All-push (λ x. x < n) (nodes chain) c (nodes_below n within (within d c edge).0 chain) lt

-- a chain of n edges between nodes below n goes round, so there is a longer one
pub goes_round : {E : ℕ → ℕ → Type 0} (n a b : ℕ) → Within E n → b < n → Chain E n a b → Circle E × ((m : ℕ) × ((n < m) × Chain E m a b))
goes_round n a b within lt chain =
    ⊎_elim (λ c. c) (λ apart. let small = few n (nodes chain) apart (nodes_below n within lt chain) in let long = many chain in absurd (omega arith)) (round_or_apart chain)
