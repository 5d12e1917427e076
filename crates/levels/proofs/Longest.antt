-- Longest chains.
use Rattle.std.proofs.Common.{◌≡◌, ℕ, zero, suc, ◌+◌, ◌-◌, ◌<◌, ◌≤◌, ◌⊎◌, List, [], ◌∷◌, max, fold, Contains, get_or, sym, refl, ap, ◌∙◌, subst, inl, inr, ⊎_elim, add-zero, add-suc, add-one, arith}
use Rattle.std.proofs.lemmas.Bool.{cases_lt}
use Rattle.std.proofs.lemmas.List.Recursion.{max_bounds}
use Rattle.levels.specs.Chains.{Edge, Chain, stay, step, Circle, Level, most, longest}
use Rattle.levels.proofs.Members.{contains_first, contains_later}

fold_from : (f : ℕ → ℕ) (b : ℕ) (xs : List ℕ) → fold (λ best a. max best (f a + 1)) b xs ≡ max b (most f xs)
fold_from f b [] = omega arith
fold_from f b (x ∷ xs) = let here = fold_from f (max b (f x + 1)) xs in let all = fold_from f (max 0 (f x + 1)) xs in omega arith

pub most_cons : (f : ℕ → ℕ) (x : ℕ) (xs : List ℕ) → most f (x ∷ xs) ≡ max (f x + 1) (most f xs)
most_cons f x xs = let all = fold_from f (max 0 (f x + 1)) xs in omega arith

most_has : (f : ℕ → ℕ) (a : ℕ) (xs : List ℕ) → Contains xs a → f a + 1 ≤ most f xs
most_has f a xs h = let bound = max_bounds (most f) (λ x. f x + 1) refl (most_cons f) xs h.0 a h.1 in let same = ap f h.2 in omega arith

-- a chain is no longer than the longest
pub no_longer : (g : List (List ℕ)) (k n a b : ℕ) → Chain (Edge g) n a b → n ≤ k → n ≤ longest g k b
no_longer g k zero a b stay le = omega arith
no_longer g zero (suc n) a c (step chain edge) le = absurd (omega arith)
no_longer g (suc k) (suc n) a c (step {b = b} chain edge) le =
    let before = no_longer g k n a b chain (omega arith) in
    let more = most_has (longest g k) b (get_or g c []) edge in
    omega arith

-- the most is none, or one more than some
pub most_is : (f : ℕ → ℕ) (xs : List ℕ) → (most f xs ≡ 0) ⊎ ((a : ℕ) × (Contains xs a × (most f xs ≡ f a + 1)))
most_is f [] = inl refl
most_is f (a ∷ xs) =
    let all = most_cons f a xs in
    ⊎_elim
    (λ (le : most f xs < f a + 1). inr (a, (contains_first a xs, omega arith)))
    (λ ge. ⊎_elim (λ none. absurd (omega arith)) (λ some. inr (some.0, (contains_later a xs some.0 some.1.0, (let e = some.1.1 in omega arith)))) (most_is f xs))
    (cases_lt (most f xs) (f a + 1))

-- there is a chain as long as the longest
pub some_chain : (g : List (List ℕ)) (k b : ℕ) → (a : ℕ) × Chain (Edge g) (longest g k b) a b
some_chain g zero b = (b, stay)
some_chain g (suc k) b =
    ⊎_elim
    (λ none. (b, subst (λ (n : ℕ). Chain (Edge g) n b b) (sym none) stay))
    (λ some. let before = some_chain g k some.0 in (before.0, subst (λ (n : ℕ). Chain (Edge g) n before.0 b) (sym (some.1.1 ∙ add-one (longest g k some.0))) (step before.1 some.1.0)))
    (most_is (longest g k) (get_or g b []))

-- all but the first edges of a chain
pub last_edges : {E : ℕ → ℕ → Type 0} (k m n a b : ℕ) → k ≡ m + n → Chain E k a b → (c : ℕ) × Chain E n c b
last_edges k m zero a b is chain = (b, stay)
last_edges zero m (suc n) a b is stay = absurd (omega arith)
last_edges (suc k) m (suc n) a c is (step {b = b} chain edge) =
    let tail = last_edges k m n a b (omega arith) chain in
    (tail.0, step tail.1 edge)

-- where no chain has k edges, the longest of at most k is the longest of all
pub level : (g : List (List ℕ)) (k b : ℕ) → longest g k b < k → Level (Edge g) b (longest g k b)
level g k b short =
    record {
      start = (some_chain g k b).0;
      chain = (some_chain g k b).1;
      longest = λ m a chain.
          ⊎_elim
          (λ (lt : m < k). no_longer g k m a b chain (omega arith))
          (λ ge.
          let tail = last_edges m (m - k) k a b (omega arith) chain in
          let long = no_longer g k k tail.0 b tail.1 (omega arith) in
          absurd (omega arith))
          (cases_lt m k);
    }

pub joined : {E : ℕ → ℕ → Type 0} (m n a b c : ℕ) → Chain E m a b → Chain E n b c → Chain E (m + n) a c
joined m zero a b c left stay = rw add-zero left
joined m (suc n) a b c left (step right edge) = rw add-suc (step (joined m n a b _ left right) edge)

-- a circle makes chains of any length
round : {E : ℕ → ℕ → Type 0} (a n k : ℕ) → Chain E (suc n) a a → (m : ℕ) × ((k ≤ m) × Chain E m a a)
round a n zero chain = (suc n, (omega arith, chain))
round a n (suc k) chain = let some = round a n k chain in (some.0 + suc n, (let le = some.1.0 in omega arith, joined some.0 (suc n) a a a some.1.1 chain))

-- levels leave no circle
pub no_circle : {E : ℕ → ℕ → Type 0} → ((b : ℕ) → (n : ℕ) × Level E b n) → Circle E → ⊥
no_circle levels circle =
    let here = levels circle.node in
    let far = round circle.node circle.edges (suc here.0) circle.chain in
    let bound = here.1.longest far.0 circle.node far.1.1 in
    let le = far.1.0 in
    omega arith
