-- The tests of precedence say what directly precedes what.
use Rattle.std.proofs.Common.{◌≡◌, ℕ, ◌+◌, ◌<◌, ◌≤◌, Bool, true, false, ◌&&◌, eqb, ◌⊎◌, List, [], map, length, get_or, filter, Contains, sym, refl, ap, ◌∙◌, subst, inl, inr, ⊎_elim, arith}
use Rattle.std.specs.List.{list_any, range_with_len}
use Rattle.std.proofs.lemmas.List.FromFn.{get_or-map-range_with_len, length-map-range_with_len}
use Rattle.std.proofs.lemmas.List.{get_or_past}
use Rattle.std.proofs.lemmas.Bool.{and_from, and_parts, or_cases, or_left, or_right, cases_lt, lt-ltb, ltb-true, eqb-true, eq-eqb}
use Rattle.std.proofs.lemmas.List.Folds.{Any-from_list_any, list_any_at}
use Rattle.levels.specs.Chains.{Edge}
use Rattle.levels.proofs.Members.{contains_counted, contains_kept, contains_none, counted_contains, kept_contains}
use Rattle.lines.specs.declared.records.ConnectionKind.{ConnectionKind}
use Rattle.lines.specs.declared.records.ConnectionKind.TheVariants.{Undelayed, Delayed}
use Rattle.lines.specs.declared.records.TriggerKind.{TriggerKind}
use Rattle.lines.specs.declared.records.TriggerKind.TheVariants as trigger
use Rattle.network.specs.Tables.{Parts}
use Rattle.network.specs.declared.parts.Connection.{Connection}
use Rattle.network.specs.declared.parts.Target.{Target}
use Rattle.network.specs.declared.parts.TargetKind.{TargetKind}
use Rattle.network.specs.declared.parts.TargetKind.TheVariants as target
use Rattle.network.specs.declared.parts.Trigger.{Trigger}
use Rattle.precedence.specs.Direct.{MaySet, JoinedUndelayed, TakesIn, Directly, same_reactor, joined}
use Rattle.precedence.specs.Tests.{sets, is_output, without_delay, undelayed, is_input, takes_input, readings_of, targets_of, joinings_of, all_readings, all_targets, all_joinings, fed, reached, precedes, predecessors, graph}

-- some element passes a test exactly if one stands there that does
some_has : {A : Type 0} (f : A → Bool) (xs : List A) → list_any f xs ≡ true → (x : A) × (Contains xs x × (f x ≡ true))
some_has f xs e = let one = Any-from_list_any f xs e in (one.1, ((one.0, one.2, one.3), one.4))

has_some : {A : Type 0} (f : A → Bool) (x : A) (xs : List A) → Contains xs x → f x ≡ true → list_any f xs ≡ true
has_some f x xs h e = list_any_at f xs h.0 x h.1 (ap f h.2 ∙ e)

-- the rows with a key
keyed_has : {A : Type 0} (key : A → ℕ) (k : ℕ) (x : A) (xs : List A) → Contains (filter (λ row. eqb (key row) k) xs) x → Contains xs x × (key x ≡ k)
keyed_has key k x xs h = let found = kept_contains (λ row. eqb (key row) k) xs x h in (found.0, eqb-true (key x) k found.1)

has_keyed : {A : Type 0} (key : A → ℕ) (k : ℕ) (x : A) (xs : List A) → Contains xs x → key x ≡ k → Contains (filter (λ row. eqb (key row) k) xs) x
has_keyed key k x xs h e = contains_kept (λ row. eqb (key row) k) xs x h (eq-eqb (key x) k e)

output_kind : (k : TargetKind) → is_output k ≡ true → k ≡ target.Output
output_kind target.Output e = refl
output_kind target.Action e = absurd cc

undelayed_kind : (k : ConnectionKind) → without_delay k ≡ true → k ≡ Undelayed
undelayed_kind Undelayed e = refl
undelayed_kind Delayed e = absurd cc

input_kind : (k : TriggerKind) → is_input k ≡ true → (k ≡ trigger.Input) ⊎ (k ≡ trigger.ReadInput)
input_kind trigger.Input e = inl refl
input_kind trigger.Timer e = absurd cc
input_kind trigger.Action e = absurd cc
input_kind trigger.ReadInput e = inr refl

module _ (p : Parts) where
  sets_may : (a o : ℕ) → list_any (sets o) (targets_of p a) ≡ true → MaySet p a o
  sets_may a o e =
      let found = some_has (sets o) (targets_of p a) e in
      let t = found.0 in
      let row = keyed_has (λ t. t.reaction) a t p.targets found.1.0 in
      let test = and_parts _ _ found.1.1 in
      subst (λ (u : Target). Contains p.targets u) (λ i. record { reaction = row.1 i; kind = output_kind t.kind test.0 i; number = eqb-true t.number o test.1 i }) row.0

  may_sets : (a o : ℕ) → MaySet p a o → list_any (sets o) (targets_of p a) ≡ true
  may_sets a o h = has_some (sets o) _ (targets_of p a) (has_keyed (λ t. t.reaction) a _ p.targets h refl) (and_from true _ refl (eq-eqb o o refl))

  takes_in : (b : ℕ) (t : Trigger) → Contains (readings_of p b) t → takes_input t ≡ true → TakesIn p b t.source
  takes_in b t h e =
      let row = keyed_has (λ t. t.reaction) b t p.triggers h in
      ⊎_elim
      (λ is. inl (subst (λ (u : Trigger). Contains p.triggers u) (λ i. record { reaction = row.1 i; kind = is i; source = t.source }) row.0))
      (λ is. inr (subst (λ (u : Trigger). Contains p.triggers u) (λ i. record { reaction = row.1 i; kind = is i; source = t.source }) row.0))
      (input_kind t.kind e)

  -- what is joined undelayed to an input from an output that a sets
  fed_joined : (a i : ℕ) → fed (targets_of p a) (joinings_of p i) ≡ true → (o : ℕ) × (MaySet p a o × JoinedUndelayed p o i)
  fed_joined a i e =
      let found = some_has (λ c. undelayed c && list_any (sets c.output) (targets_of p a)) (joinings_of p i) e in
      let c = found.0 in
      let row = keyed_has (λ c. c.input) i c p.connections found.1.0 in
      let test = and_parts _ _ found.1.1 in (
        c.output,
        (sets_may a c.output test.1, record { delay = c.delay; joins = subst (λ (u : Connection). Contains p.connections u) (λ j. record { output = c.output; input = row.1 j; kind = undelayed_kind c.kind test.0 j; delay = c.delay }) row.0 }),
      )

  joined_fed : (a i o : ℕ) → MaySet p a o → JoinedUndelayed p o i → fed (targets_of p a) (joinings_of p i) ≡ true
  joined_fed a i o may joins =
      has_some (λ c. undelayed c && list_any (sets c.output) (targets_of p a)) _ (joinings_of p i) (has_keyed (λ c. c.input) i _ p.connections joins.joins refl) (and_from true _ refl (may_sets a o may))

  at_reaction : {A : Type 0} (f : ℕ → List A) (n x : ℕ) → x < n → get_or (map f (range_with_len 0 n)) x [] ≡ f x
  at_reaction f n x lt = get_or-map-range_with_len f 0 n x x [] lt (omega arith)

  past_input : (i : ℕ) → length p.inputs ≤ i → get_or (all_joinings p) i [] ≡ []
  past_input i past = get_or_past (all_joinings p) i [] (let long = length-map-range_with_len (joinings_of p) 0 (length p.inputs) in omega arith)

  -- what is fed is an input of the network
  fed_input : (a i : ℕ) → fed (targets_of p a) (get_or (all_joinings p) i []) ≡ true → (i < length p.inputs) × (fed (targets_of p a) (joinings_of p i) ≡ true)
  fed_input a i e =
      ⊎_elim
      (λ (lt : i < length p.inputs). (lt, sym (ap (fed (targets_of p a)) (at_reaction (joinings_of p) (length p.inputs) i lt)) ∙ e))
      (λ past. absurd (let z : false ≡ true = sym (ap (fed (targets_of p a)) (past_input i past)) ∙ e in cc))
      (cases_lt i (length p.inputs))

  reached_is : (a b : ℕ) → a < length p.reactions → b < length p.reactions → reached (get_or (all_targets p) a []) (all_joinings p) (get_or (all_readings p) b []) ≡ reached (targets_of p a) (all_joinings p) (readings_of p b)
  reached_is a b lt below = λ i. reached (at_reaction (targets_of p) (length p.reactions) a lt i) (all_joinings p) (at_reaction (readings_of p) (length p.reactions) b below i)

  pub precedes_directly : (a b : ℕ) → a < length p.reactions → b < length p.reactions → precedes p a b ≡ true → Directly p a b
  precedes_directly a b lt below e =
      ⊎_elim
      (λ same. let test = and_parts _ _ same in same_reactor (ltb-true a b test.0) below (eqb-true _ _ test.1))
      (λ reach.
      let found = some_has (λ t. takes_input t && fed (targets_of p a) (get_or (all_joinings p) t.source [])) (readings_of p b) (sym (reached_is a b lt below) ∙ reach) in
      let t = found.0 in
      let test = and_parts _ _ found.1.1 in
      let input = fed_input a t.source test.1 in
      let from = fed_joined a t.source input.1 in
      joined from.0 t.source lt below input.0 from.1.0 from.1.1 (takes_in b t found.1.0 test.0))
      (or_cases _ _ e)

  takes_test : (a b i : ℕ) → i < length p.inputs → fed (targets_of p a) (joinings_of p i) ≡ true → TakesIn p b i → reached (targets_of p a) (all_joinings p) (readings_of p b) ≡ true
  takes_test a b i lt e takes =
      let there : fed (targets_of p a) (get_or (all_joinings p) i []) ≡ true = ap (fed (targets_of p a)) (at_reaction (joinings_of p) (length p.inputs) i lt) ∙ e in
      ⊎_elim
      (λ h. has_some (λ t. takes_input t && fed (targets_of p a) (get_or (all_joinings p) t.source [])) _ (readings_of p b) (has_keyed (λ t. t.reaction) b _ p.triggers h refl) there)
      (λ h. has_some (λ t. takes_input t && fed (targets_of p a) (get_or (all_joinings p) t.source [])) _ (readings_of p b) (has_keyed (λ t. t.reaction) b _ p.triggers h refl) there)
      takes

  pub directly_precedes : (a b : ℕ) → Directly p a b → precedes p a b ≡ true
  directly_precedes a b (same_reactor lt below same) = or_left _ _ (and_from _ _ (lt-ltb a b lt) (eq-eqb _ _ same))
  directly_precedes a b (joined o i lt below input may joins takes) = or_right _ _ (reached_is a b lt below ∙ takes_test a b i input (joined_fed a i o may joins) takes)

  -- a reaction stands among the direct predecessors of another exactly if it directly precedes it
  pub edge_directly : (a b : ℕ) → Edge (graph p) a b → Directly p a b
  edge_directly a b edge =
      ⊎_elim
      (λ (below : b < length p.reactions).
      let found = kept_contains (λ x. precedes p x b) (range_with_len 0 (length p.reactions)) a (subst (λ (xs : List ℕ). Contains xs a) (at_reaction (predecessors p) (length p.reactions) b below) edge) in
      precedes_directly a b (let lt = (counted_contains 0 (length p.reactions) a found.0).1 in omega arith) below found.1)
      (λ past. absurd (contains_none a (subst (λ (xs : List ℕ). Contains xs a) (get_or_past (graph p) b [] (let long = length-map-range_with_len (predecessors p) 0 (length p.reactions) in omega arith)) edge)))
      (cases_lt b (length p.reactions))

  pub directly_edge : (a b : ℕ) → Directly p a b → Edge (graph p) a b
  directly_edge a b d =
      let both = within a b d in
      subst (λ (xs : List ℕ). Contains xs a) (sym (at_reaction (predecessors p) (length p.reactions) b both.1)) (contains_kept (λ x. precedes p x b) (range_with_len 0 (length p.reactions)) a (contains_counted 0 (length p.reactions) a (omega arith) both.0) (directly_precedes a b d))
    where
      within : (x y : ℕ) → Directly p x y → (x < 0 + length p.reactions) × (y < length p.reactions)
      within x y (same_reactor lt below same) = (omega arith, below)
      within x y (joined o i lt below input may joins takes) = (omega arith, below)
