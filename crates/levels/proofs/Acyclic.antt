-- Levels or a circle, from the longest chains.
use Rattle.std.proofs.Common.{◌≡◌, ℕ, zero, suc, ◌-◌, ◌<◌, ◌≤◌, List, [], length, get_or, Contains, sym, subst, ⊎_elim, arith}
use Rattle.std.proofs.lemmas.List.{get_or_past}
use Rattle.std.proofs.lemmas.List.Elements.{All-contains}
use Rattle.std.proofs.lemmas.Bool.{cases_lt}
use Rattle.levels.specs.Answering.{Levels}
use Rattle.levels.specs.Chains.{Edge, Chain, stay, step, Circle, Level, longest}
use Rattle.levels.specs.Rounds.{AllBelow, EdgesBelow, Longest}
use Rattle.levels.proofs.Longest.{some_chain, last_edges, level, no_circle, no_longer}
use Rattle.levels.proofs.Members.{contains_none}
use Rattle.levels.proofs.Pigeons.{Within, goes_round}
use Rattle.levels.proofs.Rounds.{edges_at, longest_le}

pub edge_below : (g : List (List ℕ)) (n a b : ℕ) → EdgesBelow n g → Edge g a b → a < n
edge_below g n a b edges edge = All-contains (λ x. x < n) (get_or g b []) a (edges_at n g b edges) edge

within : (g : List (List ℕ)) → EdgesBelow (length g) g → Within (Edge g) (length g)
within g edges a b edge = (
  edge_below g (length g) a b edges edge,
  ⊎_elim (λ lt. lt) (λ past. absurd (contains_none a (subst (λ (xs : List ℕ). Contains xs a) (get_or_past g b [] past) edge))) (cases_lt b (length g)),
)

-- nothing leads to what is no node
bare : (g : List (List ℕ)) (b : ℕ) → length g ≤ b → Level (Edge g) b 0
bare g b past = record { start = b; chain = stay; longest = λ m a chain. none m a b past chain }
  where
    none : (m a c : ℕ) → length g ≤ c → Chain (Edge g) m a c → m ≤ 0
    none zero a c far stay = omega arith
    none (suc m) a c far (step {b = d} chain edge) = absurd (contains_none d (subst (λ (xs : List ℕ). Contains xs d) (get_or_past g c [] far) edge))

pub levelled : (g : List (List ℕ)) (xs : List ℕ) → Longest g (length g) (length g) xs → AllBelow (length g) xs → Levels g xs
levelled g xs so short =
    let each : (b : ℕ) → b < length g → Level (Edge g) b (get_or xs b 0) = λ b lt.
    let is = so.each b lt in
    let small = short b 0 (let size = so.size in omega arith) in
    subst (Level (Edge g) b) (sym is) (level g (length g) b (omega arith)) in
    record {
      size = so.size;
      each = each;
      no_circle = no_circle (λ b. ⊎_elim (λ (lt : b < length g). (get_or xs b 0, each b lt)) (λ past. (0, bare g b past)) (cases_lt b (length g)));
    }

-- a node whose number is as large as the number of nodes has a chain of so many edges
full_chain : (g : List (List ℕ)) (b : ℕ) → length g ≤ longest g (length g) b → (a : ℕ) × Chain (Edge g) (length g) a b
full_chain g b ge =
    let full : longest g (length g) b ≡ length g = (let le = longest_le g (length g) b in omega arith) in
    let chain = some_chain g (length g) b in
    (chain.0, subst (λ (n : ℕ). Chain (Edge g) n chain.0 b) full chain.1)

-- without a circle there is no such chain
pub acyclic_short : (g : List (List ℕ)) → EdgesBelow (length g) g → (Circle (Edge g) → ⊥) → (b : ℕ) → b < length g → longest g (length g) b < length g
acyclic_short g edges none b lt =
    ⊎_elim
    (λ short. short)
    (λ ge. let chain = full_chain g b ge in absurd (none (goes_round (length g) chain.0 b (within g edges) lt chain.1).0))
    (cases_lt (longest g (length g) b) (length g))

pub acyclic_level : (g : List (List ℕ)) → EdgesBelow (length g) g → (Circle (Edge g) → ⊥) → (b : ℕ) → b < length g → Level (Edge g) b (longest g (length g) b)
acyclic_level g edges none b lt = level g (length g) b (acyclic_short g edges none b lt)

-- such a node has such a predecessor
pub looped_before_lem : (g : List (List ℕ)) → EdgesBelow (length g) g → (b : ℕ) → b < length g → length g ≤ longest g (length g) b → (a : ℕ) × (Edge g a b × (length g ≤ longest g (length g) a))
looped_before_lem g edges b lt ge =
    let chain = full_chain g b ge in
    let more = (goes_round (length g) chain.0 b (within g edges) lt chain.1).1 in
    let tail = last_edges more.0 (more.0 - suc (length g)) (suc (length g)) chain.0 b (let long = more.1.0 in omega arith) more.1.1 in
    last_edge (length g) tail.0 b tail.1
  where
    last_edge : (n c d : ℕ) → Chain (Edge g) (suc n) c d → (a : ℕ) × (Edge g a d × (n ≤ longest g n a))
    last_edge n c d (step {b = a} front edge) = (a, (edge, no_longer g n n c a front (omega arith)))
