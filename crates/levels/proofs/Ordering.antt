-- The nodes level by level are in order.
use Rattle.std.proofs.Common.{◌≡◌, ℕ, zero, suc, ◌+◌, ◌<◌, ◌≤◌, eqb, List, [], ◌∷◌, ◌++◌, length, get_or, All, Contains, sym, ◌∙◌, inl, inr, ⊎_elim, arith}
use Rattle.std.specs.List.{AllPairs, flat_map, range_with_len}
use Rattle.std.proofs.lemmas.Bool.{cases_eq, eqb-true, eq-eqb}
use Rattle.std.proofs.lemmas.List.Elements.{All-append, All-contains, All-nil, Contains-append_left, Contains-append_right, Contains-get_or}
use Rattle.std.proofs.lemmas.List.FromFn.{get_or-range_with_len, length-range_with_len}
use Rattle.std.proofs.lemmas.List.Kept.{AllPairs-cons, AllPairs-filter}
use Rattle.levels.specs.Ordered.{Earlier, Ascending, Ordered, at_level, by_level}
use Rattle.levels.specs.Rounds.{AllBelow}
use Rattle.levels.proofs.Members.{contains_kept, contains_counted, counted_contains, kept_contains}

pairs_append : {A : Type 0} (R : A → A → Type 0) (xs ys : List A) → AllPairs R xs → AllPairs R ys → All (λ x. All (R x) ys) xs → AllPairs R (xs ++ ys)
pairs_append R [] ys front back across = back
pairs_append R (x ∷ xs) ys front back across =
    AllPairs-cons R x (xs ++ ys)
    (All-append (R x) xs ys (λ k d lt. front 0 (suc k) d (omega arith) (omega arith)) (across 0 x (omega arith)))
    (pairs_append R xs ys (λ i j d lt below. front (suc i) (suc j) d (omega arith) (omega arith)) back (λ k d lt. across (suc k) d (omega arith)))

at_only : (xs : List ℕ) (l b : ℕ) → Contains (at_level xs l) b → (b < length xs) × (get_or xs b 0 ≡ l)
at_only xs l b h =
    let kept = kept_contains (λ i. eqb (get_or xs i 0) l) (range_with_len 0 (length xs)) b h in
    (let lt = (counted_contains 0 (length xs) b kept.0).1 in omega arith, eqb-true (get_or xs b 0) l kept.1)

at_all : (xs : List ℕ) (l b : ℕ) → b < length xs → get_or xs b 0 ≡ l → Contains (at_level xs l) b
at_all xs l b lt is =
    contains_kept (λ i. eqb (get_or xs i 0) l) (range_with_len 0 (length xs)) b (contains_counted 0 (length xs) b (omega arith) (omega arith)) (eq-eqb (get_or xs b 0) l is)

at_ascending : (xs : List ℕ) (l : ℕ) → Ascending xs (at_level xs l)
at_ascending xs l i j d lt below =
    let level : (k : ℕ) → k < length (at_level xs l) → get_or xs (get_or (at_level xs l) k d) 0 ≡ l = λ k in'. (at_only xs l _ (Contains-get_or (at_level xs l) k d in')).1 in
    inr (level i (omega arith) ∙ sym (level j below), AllPairs-filter (λ a b. a < b) (λ i. eqb (get_or xs i 0) l) (range_with_len 0 (length xs)) counting i j d lt below)
  where
    counting : AllPairs (λ a b. a < b) (range_with_len 0 (length xs))
    counting i j d lt below =
        let long = length-range_with_len 0 (length xs) in
        let left = get_or-range_with_len 0 (length xs) i d (omega arith) in
        let right = get_or-range_with_len 0 (length xs) j d (omega arith) in
        omega arith

-- the nodes of n levels from a on, by level
from_level : List ℕ → ℕ → ℕ → List ℕ
from_level xs a n = flat_map (at_level xs) (range_with_len a n)

from_only : (xs : List ℕ) (a n : ℕ) → All (λ b. (b < length xs) × (a ≤ get_or xs b 0)) (from_level xs a n)
unfolding from_level
from_only xs a zero = All-nil _
from_only xs a (suc n) =
    All-append (λ (b : ℕ). (b < length xs) × (a ≤ get_or xs b 0)) (at_level xs a) (from_level xs (a + 1) n)
    (λ k d lt. let here = at_only xs a _ (Contains-get_or (at_level xs a) k d lt) in (here.0, let is = here.1 in omega arith))
    (λ k d lt. let more = from_only xs (a + 1) n k d lt in (more.0, let le = more.1 in omega arith))

from_all : (xs : List ℕ) (a n b : ℕ) → b < length xs → a ≤ get_or xs b 0 → get_or xs b 0 < a + n → Contains (from_level xs a n) b
unfolding from_level
from_all xs a zero b lt lo hi = absurd (omega arith)
from_all xs a (suc n) b lt lo hi =
    ⊎_elim
    (λ (e : get_or xs b 0 ≡ a). Contains-append_left (at_level xs a) (from_level xs (a + 1) n) b (at_all xs a b lt e))
    (λ ne. Contains-append_right (at_level xs a) (from_level xs (a + 1) n) b (from_all xs (a + 1) n b lt (omega arith) (omega arith)))
    (cases_eq (get_or xs b 0) a)

from_ascending : (xs : List ℕ) (a n : ℕ) → Ascending xs (from_level xs a n)
unfolding from_level
from_ascending xs a zero = λ i j d lt below. absurd (omega arith)
from_ascending xs a (suc n) =
    pairs_append (Earlier xs) (at_level xs a) (from_level xs (a + 1) n) (at_ascending xs a) (from_ascending xs (a + 1) n)
    (λ k d lt j e below.
    let low = (at_only xs a _ (Contains-get_or (at_level xs a) k d lt)).1 in
    let high = (from_only xs (a + 1) n j e below).1 in
    inl (omega arith))

pub by_level_ordered : (xs : List ℕ) → AllBelow (length xs) xs → Ordered xs (by_level xs)
unfolding from_level
by_level_ordered xs short =
    record {
      ascending = from_ascending xs 0 (length xs);
      all = λ b lt. from_all xs 0 (length xs) b lt (omega arith) (let low = short b 0 lt in omega arith);
      only = λ b h. (All-contains (λ (i : ℕ). (i < length xs) × (0 ≤ get_or xs i 0)) (by_level xs) b (from_only xs 0 (length xs)) h).0;
    }
