-- One round.
use Rattle.std.proofs.Common.{◌≡◌, ℕ, zero, suc, ◌+◌, ◌-◌, ◌<◌, ◌≤◌, List, [], ◌∷◌, map, length, get_or, vec_items, sym, refl, ap, ◌∙◌, subst, ⊎_elim, add-zero, add-suc, add-one, arith}
use Rattle.std.specs.Global.{Vec}
use Rattle.std.specs.List.{range_with_len}
use Rattle.std.proofs.lemmas.Bool.{cases_lt}
use Rattle.std.proofs.lemmas.List.{get_or_past, get_or-map, length-map}
use Rattle.std.proofs.lemmas.List.Elements.{All-map, All-nil, All-tail, All-from_get_or}
use Rattle.std.proofs.lemmas.List.FromFn.{get_or-map-range_with_len, length-map-range_with_len}
use Rattle.std.proofs.lemmas.List.Recursion.{max_least}
use Rattle.levels.specs.Chains.{most, longest}
use Rattle.levels.specs.Rounds.{AllBelow, EdgesBelow, EdgesWithin, Longest, reads}
use Rattle.levels.proofs.Longest.{most_cons}

-- a graph of vectors as one of lists
pub edges_below : (graph : List (Vec ℕ)) → EdgesWithin graph → EdgesBelow (length (map vec_items graph)) (map vec_items graph)
edges_below graph edges = subst (λ (n : ℕ). EdgesBelow n (map vec_items graph)) (sym (length-map graph vec_items)) (All-map (AllBelow (length graph)) vec_items graph edges)

pub edges_within_lem : (graph : List (Vec ℕ)) → EdgesBelow (length (map vec_items graph)) (map vec_items graph) → EdgesWithin graph
edges_within_lem graph edges k d lt =
    let long = length-map graph vec_items in
    subst (λ (n : ℕ). AllBelow n (vec_items (get_or graph k d))) long
    (subst (AllBelow (length (map vec_items graph))) (get_or-map vec_items graph k d (vec_items d) lt) (edges k (vec_items d) (omega arith)))

-- the nodes at a place of a graph
pub edges_at : (n : ℕ) (g : List (List ℕ)) (b : ℕ) → EdgesBelow n g → AllBelow n (get_or g b [])
edges_at n g b edges =
    ⊎_elim
    (λ (lt : b < length g). edges b [] lt)
    (λ past. subst (AllBelow n) (sym (get_or_past g b [] past)) (All-nil (λ x. x < n)))
    (cases_lt b (length g))

pub longest_le : (g : List (List ℕ)) (k b : ℕ) → longest g k b ≤ k
longest_le g zero b = omega arith
longest_le g (suc k) b =
    max_least (most (longest g k)) (λ a. longest g k a + 1) refl (most_cons (longest g k)) (get_or g b []) 0 (suc k)
    (λ i lt. let le = longest_le g k (get_or (get_or g b []) i 0) in omega arith)

pub small_enough : (g : List (List ℕ)) (n k m : ℕ) (xs : List ℕ) → Longest g n k xs → k < m → AllBelow m xs
small_enough g n k m xs so lt =
    All-from_get_or (λ x. x < m) xs 0 (λ i below. let is = so.each i (let size = so.size in omega arith) in let le = longest_le g k i in omega arith)

same_most : (f h : ℕ → ℕ) (n : ℕ) (xs : List ℕ) → AllBelow n xs → ((a : ℕ) → a < n → f a ≡ h a) → most f xs ≡ most h xs
same_most f h n [] below same = refl
same_most f h n (x ∷ xs) below same =
    let here = same x (below 0 0 (omega arith)) in
    let more = same_most f h n xs (All-tail (λ y. y < n) x xs below) same in
    let left = most_cons f x xs in
    let right = most_cons h x xs in
    omega arith

pub next_longest : (g : List (List ℕ)) (k : ℕ) (before xs ys : List ℕ) → before ≡ xs → EdgesBelow (length g) g → Longest g (length g) k xs → ys ≡ map (λ b. most (reads before) (get_or g b [])) (range_with_len 0 (length g)) → Longest g (length g) (k + 1) ys
next_longest g k before xs ys was edges so round =
    let next : ℕ → ℕ = λ b. most (reads before) (get_or g b []) in
    record {
      size = ap length round ∙ length-map-range_with_len next 0 (length g);
      each = λ b lt.
          ap (λ zs. get_or zs b 0) round
          ∙ get_or-map-range_with_len next 0 (length g) b b 0 lt (omega arith)
          ∙ ap (λ zs. most (reads zs) (get_or g b [])) was
          ∙ same_most (reads xs) (longest g k) (length g) (get_or g b []) (edges_at (length g) g b edges) so.each
          ∙ ap (λ m. longest g m b) (sym (add-one k));
    }

-- numbers that a round leaves stay
settled : (g : List (List ℕ)) (n k : ℕ) → EdgesBelow n g → ((b : ℕ) → b < n → longest g (suc k) b ≡ longest g k b) → (d b : ℕ) → b < n → longest g (k + d) b ≡ longest g k b
settled g n k edges still zero b lt = ap (λ m. longest g m b) (add-zero k)
settled g n k edges still (suc d) b lt =
    ap (λ m. longest g m b) (add-suc k d)
    ∙ same_most (longest g (k + d)) (longest g k) n (get_or g b []) (edges_at n g b edges) (settled g n k edges still d)
    ∙ still b lt

pub longest_settled : (g : List (List ℕ)) (n k m : ℕ) (xs ys : List ℕ) → EdgesBelow n g → Longest g n k xs → Longest g n (k + 1) ys → ys ≡ xs → k ≤ m → Longest g n m xs
longest_settled g n k m xs ys edges so next same le =
    record {
      size = so.size;
      each = λ b lt.
          so.each b lt
          ∙ sym (settled g n k edges (λ a below. ap (λ j. longest g j a) (sym (add-one k)) ∙ sym (next.each a below) ∙ ap (λ zs. get_or zs a 0) same ∙ so.each a below) (m - k) b lt)
          ∙ ap (λ j. longest g j b) (omega arith);
    }
