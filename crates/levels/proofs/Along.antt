-- Chains, circles and levels of one relation from those of another, and what a level says.
use Rattle.std.proofs.Common.{◌≡◌, ℕ, zero, suc, ◌<◌, ◌≤◌, List, [], ◌∷◌, subst, arith}
use Rattle.levels.specs.Chains.{Chain, stay, step, Circle, Level, Leads, Round}

pub chain_along : {E F : ℕ → ℕ → Type 0} {n a b : ℕ} → ((a b : ℕ) → E a b → F a b) → Chain E n a b → Chain F n a b
chain_along f stay = stay
chain_along f (step {b = b} {c = c} chain edge) = step (chain_along f chain) (f b c edge)

pub circle_along : {E F : ℕ → ℕ → Type 0} → ((a b : ℕ) → E a b → F a b) → Circle E → Circle F
circle_along f circle = record { node = circle.node; edges = circle.edges; chain = chain_along f circle.chain }

leads_along : {E F : ℕ → ℕ → Type 0} → ((a b : ℕ) → E a b → F a b) → (a : ℕ) (xs : List ℕ) (b : ℕ) → Leads E a xs b → Leads F a xs b
leads_along f a [] b here = here
leads_along f a (c ∷ xs) b leads = (f a c leads.0, leads_along f c xs b leads.1)

pub round_along : {E F : ℕ → ℕ → Type 0} → ((a b : ℕ) → E a b → F a b) → (xs : List ℕ) → Round E xs → Round F xs
round_along f [] round = absurd round
round_along f (a ∷ []) round = absurd round
round_along f (a ∷ b ∷ xs) round = leads_along f a (b ∷ xs) a round

pub level_along : {E F : ℕ → ℕ → Type 0} {b n : ℕ} → ((a b : ℕ) → E a b → F a b) → ((a b : ℕ) → F a b → E a b) → Level E b n → Level F b n
level_along f back level =
    record {
      start = level.start;
      chain = chain_along f level.chain;
      longest = λ m a chain. level.longest m a (chain_along back chain);
    }

-- a node has one level
pub level_one : {E : ℕ → ℕ → Type 0} {b m n : ℕ} → Level E b m → Level E b n → m ≡ n
level_one {m = m} {n = n} left right =
    let up = right.longest m left.start left.chain in
    let down = left.longest n right.start right.chain in
    omega arith

pub level_rises : {E : ℕ → ℕ → Type 0} {a b m n : ℕ} → Level E a m → Level E b n → E a b → m < n
level_rises {m = m} left right edge = right.longest (suc m) left.start (step left.chain edge)

leads_chain : {E : ℕ → ℕ → Type 0} {n a : ℕ} (c : ℕ) (xs : List ℕ) (b : ℕ) → Chain E n a c → Leads E c xs b → (m : ℕ) × ((n ≤ m) × Chain E m a b)
leads_chain {E} {n} {a} c [] b chain is = (n, (omega arith, subst (λ (x : ℕ). Chain E n a x) is chain))
leads_chain c (d ∷ xs) b chain leads =
    let rest = leads_chain d xs b (step chain leads.0) leads.1 in
    (rest.0, (let le = rest.1.0 in omega arith, rest.1.1))

pub round_circle : {E : ℕ → ℕ → Type 0} (xs : List ℕ) → Round E xs → Circle E
round_circle [] round = absurd round
round_circle (a ∷ []) round = absurd round
round_circle {E} (a ∷ b ∷ xs) round =
    let chain = leads_chain b xs a (step stay round.0) round.1 in
    closed chain.0 chain.1.0 chain.1.1
  where
    closed : (m : ℕ) → 1 ≤ m → Chain E m a a → Circle E
    closed zero le c = absurd (omega arith)
    closed (suc m) le c = record { node = a; edges = m; chain = c }
