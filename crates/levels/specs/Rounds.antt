-- One round towards the longest chains.
use Rattle.std.specs.Prelude.{◌≡◌, ℕ, ◌<◌, List, length, All, vec_items, slice_index}
use Rattle.std.specs.Global.{Vec}
use Rattle.levels.specs.Chains.{longest}

-- numbers below n
abbrev pub AllBelow : ℕ → List ℕ → Type 0
AllBelow n xs = All (λ x. x < n) xs

-- the number of a node
abbrev pub reads : List ℕ → ℕ → ℕ
reads xs i = slice_index xs i

-- the same of the direct predecessors of every node
abbrev pub EdgesBelow : ℕ → List (List ℕ) → Type 0
EdgesBelow n g = All (AllBelow n) g

-- every edge joins nodes of the graph
abbrev pub EdgesWithin : List (Vec ℕ) → Type 0
EdgesWithin graph = All (λ nodes. AllBelow (length graph) (vec_items nodes)) graph

-- the numbers of n nodes are their longest chains of at most k edges
pub record Longest (g : List (List ℕ)) (n k : ℕ) (xs : List ℕ) : Type 0 where
  pub size : length xs ≡ n
  pub each : (b : ℕ) → b < n → slice_index xs b ≡ longest g k b
