-- What a list contains.
use Rattle.std.proofs.Common.{◌≡◌, ℕ, zero, suc, ◌+◌, ◌<◌, ◌≤◌, cond, true, false, Bool, ◌⊎◌, List, [], ◌∷◌, filter, Contains, sym, refl, ap, ◌∙◌, subst, inl, inr, ⊎_elim, arith}
use Rattle.std.specs.List.{range_with_len}
use Rattle.std.proofs.lemmas.List.Elements.{All-contains, All-contains_itself, All-filter, filter_passes, Contains-get_or, Contains-append_cases, Contains-append_right, Contains-push_cases}
use Rattle.std.proofs.lemmas.List.FromFn.{get_or-range_with_len, length-range_with_len}
use Rattle.std.proofs.lemmas.Bool.{cases_eq}

module _ {A : Type 0} where
  pub contains_none : (x : A) → Contains [] x → ⊥
  contains_none x h = let lt = h.1 in omega arith

  pub contains_first : (y : A) (ys : List A) → Contains (y ∷ ys) y
  contains_first y ys = Contains-get_or (y ∷ ys) 0 y (omega arith)

  pub contains_later : (y : A) (ys : List A) (x : A) → Contains ys x → Contains (y ∷ ys) x
  contains_later y ys x h = Contains-append_right (y ∷ []) ys x h

  pub contains_cons : (y : A) (ys : List A) (x : A) → Contains (y ∷ ys) x → (y ≡ x) ⊎ Contains ys x
  contains_cons y ys x h =
      ⊎_elim
      (λ one. ⊎_elim (λ none. absurd (contains_none x none)) (λ e. inl e) (Contains-push_cases [] y x one))
      (λ more. inr more)
      (Contains-append_cases (y ∷ []) ys x h)

  -- what a filter keeps
  pub kept_contains : (p : A → Bool) (xs : List A) (x : A) → Contains (filter p xs) x → Contains xs x × (p x ≡ true)
  kept_contains p xs x h = (
    All-contains (Contains xs) (filter p xs) x (All-filter p (Contains xs) xs (All-contains_itself xs)) h,
    All-contains (λ y. p y ≡ true) (filter p xs) x (filter_passes p xs) h,
  )

  pub contains_kept : (p : A → Bool) (xs : List A) (x : A) → Contains xs x → p x ≡ true → Contains (filter p xs) x
  contains_kept p [] x h is = h
  contains_kept p (y ∷ ys) x h is = go (p y) refl (contains_cons y ys x h) (λ k. contains_kept p ys x k is)
    where
      go : (b : Bool) → p y ≡ b → (y ≡ x) ⊎ Contains ys x → (Contains ys x → Contains (filter p ys) x) → Contains (cond b (y ∷ filter p ys) (filter p ys)) x
      go true e (inl same) more = subst (Contains (y ∷ filter p ys)) same (contains_first y (filter p ys))
      go true e (inr k) more = contains_later y (filter p ys) x (more k)
      go false e (inl same) more = absurd (let z : true ≡ false = sym is ∙ ap p (sym same) ∙ e in cc)
      go false e (inr k) more = more k

pub contains_or_not : (xs : List ℕ) (x : ℕ) → Contains xs x ⊎ (Contains xs x → ⊥)
contains_or_not [] x = inr (contains_none x)
contains_or_not (y ∷ ys) x =
    ⊎_elim
    (λ e. inl (subst (Contains (y ∷ ys)) e (contains_first y ys)))
    (λ ne. ⊎_elim (λ h. inl (contains_later y ys x h)) (λ none. inr (λ h. ⊎_elim ne none (contains_cons y ys x h))) (contains_or_not ys x))
    (cases_eq y x)

-- numbers from a on
pub counted_contains : (a n x : ℕ) → Contains (range_with_len a n) x → (a ≤ x) × (x < a + n)
counted_contains a n x h =
    let long = length-range_with_len a n in
    let at = get_or-range_with_len a n h.0 x (let lt = h.1 in omega arith) in
    let is = h.2 in
    let lt = h.1 in
    (omega arith, omega arith)

pub contains_counted : (a n x : ℕ) → a ≤ x → x < a + n → Contains (range_with_len a n) x
contains_counted a zero x lo hi = absurd (omega arith)
contains_counted a (suc n) x lo hi =
    ⊎_elim
    (λ (e : a ≡ x). subst (Contains (range_with_len a (suc n))) e (contains_first a (range_with_len (a + 1) n)))
    (λ ne. contains_later a (range_with_len (a + 1) n) x (contains_counted (a + 1) n x (omega arith) (omega arith)))
    (cases_eq a x)
