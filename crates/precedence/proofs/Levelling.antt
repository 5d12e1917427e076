-- Levels of reactions, from those of the graph of direct predecessors.
use Rattle.std.proofs.Common.{◌≡◌, ◌≢◌, ℕ, ◌<◌, Bool, List, map, length, get_or, Ok, Err, Result, vec_items, filter, sym, ap, ◌∙◌, subst, arith}
use Rattle.std.specs.List.{range_with_len}
use Rattle.std.specs.Result.{IsErrAnd, MatchResult}
use Rattle.std.proofs.lemmas.List.FromFn.{length-range_with_len, get_or-range_with_len, length-map-range_with_len, get_or-map-range_with_len, fill_by_all}
use Rattle.std.proofs.lemmas.List.Elements.{All-filter, All-from_get_or, All-map}
use Rattle.levels.specs.Answering.{Levels}
use Rattle.levels.specs.Answering as levels
use Rattle.levels.specs.declared.error.LevelsError.{LevelsError}
use Rattle.levels.specs.declared.level.Levelled.{Levelled}
use Rattle.levels.specs.declared.error.LevelsError.TheVariants as graph
use Rattle.levels.specs.Chains.{Edge, Circle, Level, Round, longest}
use Rattle.levels.specs.Ordered.{by_level}
use Rattle.levels.specs.Rounds.{AllBelow, EdgesBelow}
use Rattle.levels.proofs.Acyclic.{acyclic_level, acyclic_short}
use Rattle.levels.proofs.Along.{circle_along, round_along, level_along, level_one, level_rises}
use Rattle.levels.proofs.Ordering.{by_level_ordered}
use Rattle.network.specs.Tables.{Parts}
use Rattle.network.specs.declared.parts.Reaction.{Reaction}
use Rattle.precedence.specs.Answers.{Answers, Holds, Means, levels_of}
use Rattle.precedence.specs.Direct.{Directly, same_reactor, joined}
use Rattle.precedence.specs.Errors.{Tells}
use Rattle.precedence.specs.Indexes.{Indexes, before}
use Rattle.precedence.specs.Tests.{graph, precedes, predecessors, preceding}
use Rattle.precedence.specs.declared.index.Index.{Index}
use Rattle.precedence.specs.declared.precedence.Precedence.{Precedence}
use Rattle.precedence.specs.declared.error.PrecedenceError.{PrecedenceError}
use Rattle.precedence.proofs.Directness.{edge_directly, directly_edge}

edges_counted : (f : ℕ → ℕ → Bool) (n : ℕ) → EdgesBelow n (map (λ b. filter (λ a. f a b) (range_with_len 0 n)) (range_with_len 0 n))
edges_counted f n = All-map (AllBelow n) (λ b. filter (λ a. f a b) (range_with_len 0 n)) (range_with_len 0 n) (λ k d lt. All-filter (λ a. f a (get_or (range_with_len 0 n) k d)) (λ x. x < n) (range_with_len 0 n) counted)
  where
    counted : AllBelow n (range_with_len 0 n)
    counted i d lt = let long = length-range_with_len 0 n in let at = get_or-range_with_len 0 n i d (omega arith) in omega arith

module _ (p : Parts) where
  size : length (graph p) ≡ length p.reactions
  size = length-map-range_with_len (predecessors p) 0 (length p.reactions)

  -- every direct predecessor is a reaction
  pub edges_within : EdgesBelow (length (graph p)) (graph p)
  edges_within = subst (λ (n : ℕ). EdgesBelow n (graph p)) (sym size) (edges_counted (precedes p) (length p.reactions))

  -- an index of the network finds its direct predecessors
  found : (x : Index) → Indexes p x → map (before x p.reactions) (range_with_len 0 (length p.reactions)) ≡ graph p
  found x is = λ i. map (λ b. filter (λ a. preceding (map (λ y. y.reactor) p.reactions) (is.targets i) (is.joinings i) (is.readings i) a b) (range_with_len 0 (length p.reactions))) (range_with_len 0 (length p.reactions))

  pub graph_is : (x : Index) (rows : List Reaction) (g : List (List ℕ)) → Indexes p x → rows ≡ p.reactions → g ≡ map (before x rows) (range_with_len 0 (length rows)) → g ≡ graph p
  graph_is x rows g is same so = so ∙ ap (λ rs. map (before x rs) (range_with_len 0 (length rs))) same ∙ found x is

  module _ (none : Circle (Edge (graph p)) → ⊥) where
    each : (x : ℕ) → x < length p.reactions → Level (Edge (graph p)) x (longest (graph p) (length p.reactions) x)
    each x lt = subst (λ (n : ℕ). Level (Edge (graph p)) x (longest (graph p) n x)) size (acyclic_level (graph p) edges_within none x (omega (arith, size)))

    at : (x : ℕ) → x < length p.reactions → get_or (levels_of p) x 0 ≡ longest (graph p) (length p.reactions) x
    at x lt = get_or-map-range_with_len (longest (graph p) (length p.reactions)) 0 (length p.reactions) x x 0 lt (omega arith)

    level : (x : ℕ) → x < length p.reactions → Level (Directly p) x (get_or (levels_of p) x 0)
    level x lt = subst (Level (Directly p) x) (sym (at x lt)) (level_along (edge_directly p) (directly_edge p) (each x lt))

  pub acyclic : (Circle (Edge (graph p)) → ⊥) → Circle (Directly p) → ⊥
  acyclic none circle = none (circle_along (directly_edge p) circle)

  -- the level of each reaction of a network without a circle
  pub level_of : (Circle (Directly p) → ⊥) → (x : ℕ) → x < length p.reactions → Level (Directly p) x (get_or (levels_of p) x 0)
  level_of none x lt = level (λ circle. none (circle_along (edge_directly p) circle)) x lt

  pub levels_are : (xs : List ℕ) → Levels (graph p) xs → xs ≡ levels_of p
  levels_are xs so = fill_by_all (longest (graph p) (length p.reactions)) xs (length p.reactions) 0 (so.size ∙ size) (λ k lt. level_one (so.each k (omega (arith, size))) (each so.no_circle k lt))

  levels_below : (Circle (Edge (graph p)) → ⊥) → AllBelow (length (levels_of p)) (levels_of p)
  levels_below none =
      let long : length (levels_of p) ≡ length p.reactions = length-map-range_with_len (longest (graph p) (length p.reactions)) 0 (length p.reactions) in
      All-from_get_or (λ x. x < length (levels_of p)) (levels_of p) 0 (λ i lt.
      let at_i = at none i (omega arith) in
      let short : longest (graph p) (length p.reactions) i < length p.reactions = subst (λ (n : ℕ). longest (graph p) n i < n) size (acyclic_short (graph p) edges_within none i (omega (arith, size))) in
      omega arith)

  -- what precedes directly, and what it precedes, are reactions
  reactions : (a b : ℕ) → Directly p a b → (a < length p.reactions) × (b < length p.reactions)
  reactions a b (same_reactor before within same) = (omega arith, within)
  reactions a b (joined o i left right input sets joins takes) = (left, right)

  -- what it means that a network has no circle
  pub means : (Circle (Directly p) → ⊥) → Means p
  means none = record { direct = λ a b. (edge_directly p a b, directly_edge p a b); level = level_of none; rises = λ a b before. level_rises (level_of none a (reactions a b before).0) (level_of none b (reactions a b before).1) before; order = by_level_ordered (levels_of p) (levels_below (λ circle. none (circle_along (edge_directly p) circle))) }

  pub holds : (x : Precedence) → Indexes p x.index → map vec_items (vec_items x.predecessors) ≡ graph p → Levels (graph p) (vec_items x.levels) → vec_items x.order ≡ by_level (vec_items x.levels) → Holds p x
  holds x index before so order =
      let same = levels_are (vec_items x.levels) so in
      record { index = index; predecessors = before; levels = same; order = order ∙ ap by_level same; no_circle = acyclic so.no_circle }

  pub possible : (g : List (List ℕ)) (e : LevelsError) → g ≡ graph p → levels.Answers g (Err e) → e ≢ graph.NoNode
  possible g graph.NoNode is why = λ same. why (subst (λ (h : List (List ℕ)). EdgesBelow (length h) h) (sym is) edges_within)
  possible g (graph.Circle v) is why = λ same. cc
  possible g (graph.NoMemory e) is why = λ same. cc

  pub tells : (g : List (List ℕ)) (e : LevelsError) (r : PrecedenceError) → g ≡ graph p → levels.Answers g (Err e) → Tells e r → Answers p (Err r)
  tells g graph.NoNode r is why same = absurd same
  tells g (graph.Circle v) r is why same = subst (λ (x : PrecedenceError). Answers p (Err x)) (sym same) (round_along (edge_directly p) (vec_items v) (subst (λ (h : List (List ℕ)). Round (Edge h) (vec_items v)) is why))
  tells g (graph.NoMemory e) r is why same = subst (λ (x : PrecedenceError). Answers p (Err x)) (sym same) tt

  -- the same of the result that an error was told in
  pub told_err : (g : List (List ℕ)) (r : Result Levelled LevelsError) (s : Result Levelled PrecedenceError) (e : PrecedenceError) (t : Result Precedence PrecedenceError) → g ≡ graph p → levels.Answers g r → MatchResult r (λ l. s ≡ Ok l) (λ d. IsErrAnd s (Tells d)) → s ≡ Err e → IsErrAnd t (λ d. d ≡ e) → Answers p t
  told_err g (Ok l) s e t is why cases was same = absurd (cc (cases, was))
  told_err g (Err d) s e (Ok x) is why cases was same = absurd same
  told_err g (Err d) s e (Err f) is why cases was same = tells g d f is why (subst (λ (u : PrecedenceError). Tells d u) (sym same) (subst (λ (u : Result Levelled PrecedenceError). IsErrAnd u (Tells d)) was cases))

  pub told_ok : (g : List (List ℕ)) (r : Result Levelled LevelsError) (s : Result Levelled PrecedenceError) (l : Levelled) → levels.Answers g r → MatchResult r (λ k. s ≡ Ok k) (λ d. IsErrAnd s (Tells d)) → s ≡ Ok l → levels.Answers g (Ok l)
  told_ok g (Ok k) s l so cases was = subst (λ (u : Levelled). levels.Answers g (Ok u)) (let same : k ≡ l = cc (cases, was) in same) so
  told_ok g (Err d) s l so cases was = absurd (subst (λ (u : Result Levelled PrecedenceError). IsErrAnd u (Tells d)) was cases)
