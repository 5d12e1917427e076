-- Going back from a node to which chains of any length lead comes round.
use Rattle.std.proofs.Common.{◌≡◌, ◌≢◌, All, ℕ, zero, suc, ◌+◌, ◌-◌, ◌<◌, ◌≤◌, List, [], ◌∷◌, ◌++◌, reverse, length, get_or, take, drop, sym, refl, ap, ◌∙◌, subst, arith}
use Rattle.std.proofs.lemmas.List.{length_push, length-reverse, length-drop, get_or-drop, get_or_push, get_or_append_left, reverse-append, take_rest}
use Rattle.std.proofs.lemmas.List.Elements.{All-contains, All-push}
use Rattle.levels.specs.Chains.{Edge, Leads, Round}
use Rattle.levels.specs.Rounds.{AllBelow, EdgesBelow, Longest}
use Rattle.levels.proofs.Acyclic.{looped_before_lem, edge_below}
use Rattle.levels.proofs.Pigeons.{Apart, apart_push, few}

-- a node of which no predecessor's number is the number of nodes
pub no_end : (g : List (List ℕ)) (b : ℕ) (numbers : List ℕ) → EdgesBelow (length g) g → Longest g (length g) (length g) numbers → b < length g → length g ≤ get_or numbers b 0 → All (λ a. get_or numbers a 0 < length g) (get_or g b []) → ⊥
no_end g b numbers edges so lt ge none =
    let is = so.each b lt in
    let back = looped_before_lem g edges b lt (omega arith) in
    let a : ℕ = back.0 in
    let below : a < length g = edge_below g (length g) a b edges back.1.0 in
    let short = All-contains (λ (x : ℕ). get_or numbers x 0 < length g) (get_or g b []) a none back.1.0 in
    let number = so.each a below in
    let long = back.1.1 in
    omega arith

-- each node but the first directly precedes the one before it
abbrev pub Trail : (ℕ → ℕ → Type 0) → List ℕ → Type 0
Trail E [] = Unit {0}
Trail E (a ∷ []) = Unit {0}
Trail E (a ∷ b ∷ xs) = E b a × Trail E (b ∷ xs)

-- k steps back, to node, and never twice to one
pub record Walk (g : List (List ℕ)) (n k : ℕ) (numbers path : List ℕ) (node : ℕ) : Type 0 where
  pub many : length path ≡ k + 1
  pub below : AllBelow n path
  pub apart : Apart path
  pub trail : Trail (Edge g) path
  pub here : get_or path k 0 ≡ node
  pub looped : n ≤ get_or numbers node 0

trail_push : (E : ℕ → ℕ → Type 0) (xs : List ℕ) (k b a : ℕ) → length xs ≡ k + 1 → get_or xs k 0 ≡ b → Trail E xs → E a b → Trail E (xs ++ a ∷ [])
trail_push E [] k b a many here trail edge = tt
trail_push E (x ∷ []) zero b a many here trail edge = (subst (E a) (sym here) edge, tt)
trail_push E (x ∷ []) (suc k) b a many here trail edge = absurd (omega arith)
trail_push E (x ∷ y ∷ xs) zero b a many here trail edge = absurd (omega arith)
trail_push E (x ∷ y ∷ xs) (suc k) b a many here trail edge = (trail.0, trail_push E (y ∷ xs) k b a (omega arith) here trail.1 edge)

pub walk_on : (g : List (List ℕ)) (n k : ℕ) (numbers path : List ℕ) (node a : ℕ) (old next : List ℕ) → old ≡ path → next ≡ path ++ a ∷ [] → Walk g n k numbers path node → EdgesBelow n g → Edge g a node → n ≤ get_or numbers a 0 → All (λ other. other ≢ a) old → Walk g n (k + 1) numbers next a
walk_on g n k numbers path node a old next was is walk edges edge ge fresh =
    subst (λ (xs : List ℕ). Walk g n (k + 1) numbers xs a) (sym is)
    (record {
      many = (let long = length_push path a in let many = walk.many in omega arith);
      below = All-push (λ x. x < n) path a walk.below (edge_below g n a node edges edge);
      apart = apart_push path a walk.apart (λ h. All-contains (λ other. other ≢ a) path a (subst (All (λ other. other ≢ a)) was fresh) h refl);
      trail = trail_push (Edge g) path k node a walk.many walk.here walk.trail edge;
      here = get_or_push path a 0 (k + 1) walk.many;
      looped = ge;
    })

-- n + 1 nodes below n are not apart
pub walk_ends : (g : List (List ℕ)) (n k : ℕ) (numbers path : List ℕ) (node : ℕ) → Walk g n k numbers path node → n ≤ k → ⊥
walk_ends g n k numbers path node walk le = let small = few n path walk.apart walk.below in let many = walk.many in omega arith

trail_drop : (E : ℕ → ℕ → Type 0) (i : ℕ) (xs : List ℕ) → Trail E xs → Trail E (drop i xs)
trail_drop E zero xs trail = trail
trail_drop E (suc i) [] trail = tt
trail_drop E (suc i) (x ∷ []) trail = trail_drop E i [] tt
trail_drop E (suc i) (x ∷ y ∷ xs) trail = trail_drop E i (y ∷ xs) trail.1

leads_push : (E : ℕ → ℕ → Type 0) (a : ℕ) (xs : List ℕ) (b c : ℕ) → Leads E a xs b → E b c → Leads E a (xs ++ c ∷ []) c
leads_push E a [] b c is edge = (subst (λ (x : ℕ). E x c) (sym is) edge, refl)
leads_push E a (d ∷ xs) b c leads edge = (leads.0, leads_push E d xs b c leads.1 edge)

-- a trail the other way leads from its last node to its first
pub record Turned (E : ℕ → ℕ → Type 0) (a : ℕ) (xs : List ℕ) : Type 0 where
  pub from : ℕ
  pub rest : List ℕ
  pub is : reverse (a ∷ xs) ≡ from ∷ rest
  pub leads : Leads E from rest a
  pub ends : from ≡ get_or (a ∷ xs) (length xs) 0

turn : (E : ℕ → ℕ → Type 0) (a : ℕ) (xs : List ℕ) → Trail E (a ∷ xs) → Turned E a xs
turn E a [] trail = record { from = a; rest = []; is = refl; leads = refl; ends = refl }
turn E a (b ∷ xs) trail =
    let more = turn E b xs trail.1 in
    record {
      from = more.from;
      rest = more.rest ++ a ∷ [];
      is = reverse-append (a ∷ []) (b ∷ xs) ∙ ap (λ (ys : List ℕ). ys ++ a ∷ []) more.is;
      leads = leads_push E more.from more.rest b a more.leads trail.0;
      ends = more.ends;
    }

closed : (E : ℕ → ℕ → Type 0) (a b : ℕ) (xs : List ℕ) → a ≡ b → 2 ≤ length (a ∷ xs) → Leads E a xs b → Round E (a ∷ xs)
closed E a b [] same long leads = absurd (omega arith)
closed E a b (c ∷ xs) same long leads = subst (λ (x : ℕ). Leads E a (c ∷ xs) x) (sym same) leads

round_back : (E : ℕ → ℕ → Type 0) (ys : List ℕ) → 2 ≤ length ys → get_or ys 0 0 ≡ get_or ys (length ys - 1) 0 → Trail E ys → Round E (reverse ys)
round_back E [] long same trail = absurd (omega arith)
round_back E (a ∷ xs) long same trail =
    let back = turn E a xs trail in
    let last : length (a ∷ xs) - 1 ≡ length xs = omega arith in
    let first : back.from ≡ a = back.ends ∙ sym (same ∙ ap (λ (i : ℕ). get_or (a ∷ xs) i 0) last) in
    let size = length-reverse (a ∷ xs) ∙ refl in
    let more = ap length back.is in
    subst (Round E) (sym back.is) (closed E back.from a back.rest first (omega arith) back.leads)

came_round : (E : ℕ → ℕ → Type 0) (path : List ℕ) (a i : ℕ) → Trail E (path ++ a ∷ []) → i < length path → get_or path i 0 ≡ a → Round E (reverse (drop i (path ++ a ∷ [])))
came_round E path a i trail lt here =
    let ys : List ℕ = drop i (path ++ a ∷ []) in
    let size : length ys ≡ length path + 1 - i = length-drop i (path ++ a ∷ []) ∙ ap (λ (m : ℕ). m - i) (length_push path a) in
    let first : get_or ys 0 0 ≡ a = get_or-drop i (path ++ a ∷ []) 0 0 ∙ ap (λ (j : ℕ). get_or (path ++ a ∷ []) j 0) (omega arith) ∙ get_or_append_left path (a ∷ []) 0 i lt ∙ here in
    let last : get_or ys (length ys - 1) 0 ≡ a = get_or-drop i (path ++ a ∷ []) (length ys - 1) 0 ∙ get_or_push path a 0 (i + (length ys - 1)) (omega arith) in
    round_back E ys (omega arith) (first ∙ sym last) (trail_drop E i (path ++ a ∷ []) trail)

pub walk_round : (g : List (List ℕ)) (n k : ℕ) (numbers path : List ℕ) (node a i : ℕ) (old next zs : List ℕ) → old ≡ path → next ≡ path ++ a ∷ [] → Walk g n k numbers path node → Edge g a node → (i < length old) × (get_or old i 0 ≡ a) → zs ≡ reverse (take (length next - i) (drop i next)) → Round (Edge g) zs
walk_round g n k numbers path node a i old next zs was is walk edge found turned =
    let place = subst (λ (xs : List ℕ). (i < length xs) × (get_or xs i 0 ≡ a)) was found in
    subst (Round (Edge g)) (sym (turned ∙ ap reverse (take_rest next i) ∙ ap (λ (xs : List ℕ). reverse (drop i xs)) is))
    (came_round (Edge g) path a i (trail_push (Edge g) path k node a walk.many walk.here walk.trail edge) place.0 place.1)
