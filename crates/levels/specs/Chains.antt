-- Chains and circles of a relation between nodes, and graphs by the direct predecessors of each node.
use Rattle.std.specs.Prelude.{◌≡◌, ℕ, zero, suc, ◌+◌, ◌≤◌, max, List, [], ◌∷◌, fold, Contains, slice_index_or}

-- a directly precedes b
abbrev pub Edge : List (List ℕ) → ℕ → ℕ → Type 0
Edge g a b = Contains (slice_index_or g b []) a

-- so many edges lead from a to b
pub data Chain (E : ℕ → ℕ → Type 0) : ℕ → ℕ → ℕ → Type 0 where
  stay : {a : ℕ} → Chain E zero a a
  step : {n a b c : ℕ} → Chain E n a b → E b c → Chain E (suc n) a c

-- a chain of one or more edges leads from some node back to itself
pub record Circle (E : ℕ → ℕ → Type 0) : Type 0 where
  pub node : ℕ
  pub edges : ℕ
  pub chain : Chain E (suc edges) node node

-- n is the number of edges of the longest chain to b
pub record Level (E : ℕ → ℕ → Type 0) (b n : ℕ) : Type 0 where
  pub start : ℕ
  pub chain : Chain E n start b
  pub longest : (m a : ℕ) → Chain E m a b → m ≤ n

-- in turn these nodes lead from a to b
abbrev pub Leads : (ℕ → ℕ → Type 0) → ℕ → List ℕ → ℕ → Type 0
Leads E a [] b = a ≡ b
Leads E a (c ∷ xs) b = E a c × Leads E c xs b

-- nodes, each of which leads to the next, from one back to itself
abbrev pub Round : (ℕ → ℕ → Type 0) → List ℕ → Type 0
Round E [] = ⊥
Round E (a ∷ []) = ⊥
Round E (a ∷ b ∷ xs) = Leads E a (b ∷ xs) a

-- one more than the most that f gives on a list, 0 of an empty one
abbrev pub most : (ℕ → ℕ) → List ℕ → ℕ
most f xs = fold (λ best a. max best (f a + 1)) 0 xs

-- the edges of the longest chain to b that has at most k
abbrev pub longest : List (List ℕ) → ℕ → ℕ → ℕ
longest g zero b = 0
longest g (suc k) b = most (longest g k) (slice_index_or g b [])
