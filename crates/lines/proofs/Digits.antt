-- Runs of digits and the numbers that they write.
use Rattle.std.proofs.Common.{Option, None, Some, ◌≡◌, ℕ, zero, suc, ◌+◌, ◌-◌, ◌*◌, ◌^◌, ◌<◌, ◌≤◌, ◌⊎◌, List, [], ◌∷◌, ◌++◌, length, get_or, take, drop, ℤ, pos, negsuc, neg_ℤ, decimal, sym, refl, ap, ◌∙◌, subst, inl, inr, ⊎_elim, add-zero, add-one, arith, take-append-drop}
use native.Mathlib.Nat.{pow-le-pow_right}
use Rattle.std.specs.Str.Parse.{AllDigits, digits_value}
use Rattle.std.specs.Char.{digit_value, IsAsciiDigit, IsNotAsciiDigit}
use Rattle.std.specs.List.{AllWithin, HoldsAt}
use Rattle.std.specs.Option.{MatchOption, unwrap_or}
use Rattle.std.specs.Int.{IsInRange}
use Rattle.std.specs.Fmt.{signed_decimal}
use Rattle.std.proofs.lemmas.Int.Digits.{digits_value_more, digits_value-lt}
use Rattle.std.proofs.lemmas.Str.Parse.{digit_from_value, digit_at, IsNumeralModel, numerals_by_value, tells_digits}
use Rattle.std.proofs.lemmas.Fmt.{decimal-digits_value, length-decimal-le, decimal_nonempty, first_decimal, decimal_injective, digits_decimal, decimal_digit}
use Rattle.std.proofs.lemmas.List.{length-take-le, get_or-drop, drop_all, get_or_append_left}
use Rattle.std.proofs.lemmas.Slice.{first_rest}
use Rattle.std.proofs.lemmas.Bool.{cases_eq}
use Rattle.lines.specs.Numbers.{Short, ShortZ, NumberText, NumbersAreDigits}
use Rattle.lines.specs.Steps.{Stops, Run, NumberAt, NoNatural, NoInteger}

own : IsNumeralModel (AllDigits 10) (digits_value 10)
own = numerals_by_value (AllDigits 10) tells_digits

tens : (k : ℕ) → k ≤ 19 → 10 ^ k ≤ 10 ^ 19
tens k h = pow-le-pow_right {n = 10} (omega arith) h

digit_value-digit : (c : ℕ) → 48 ≤ c → c ≤ 57 → digit_value c ≡ c - 48
digit_value-digit c lo hi = grind arith

pub digits_take : (ds : List ℕ) (i : ℕ) → AllDigits 10 ds → AllDigits 10 (take i ds)
digits_take [] zero h = tt
digits_take [] (suc i) h = tt
digits_take (d ∷ ds) zero h = tt
digits_take (d ∷ ds) (suc i) h = (h.0, digits_take ds i h.1)

-- one more digit
pub record Step (ds : List ℕ) (i : ℕ) : Type 0 where
  pub low : 48 ≤ get_or ds i 0
  pub more : digits_value 10 (take i ds) * 10 + (get_or ds i 0 - 48) ≡ digits_value 10 (take (i + 1) ds)
  pub fits : digits_value 10 (take (i + 1) ds) < 10 ^ 19

pub step : (ds : List ℕ) (i : ℕ) → NumberText ds → i < length ds → Step ds i
step ds i number lt =
    let few = number.few in
    let here : IsInRange 48 57 (get_or ds i 0) = digit_at ds i number.digits lt in
    let bound = digits_value-lt 10 (take (i + 1) ds) (digits_take ds (i + 1) number.digits) in
    let long : length (take (i + 1) ds) ≡ i + 1 = length-take-le (i + 1) ds (omega arith) in
    let small : 10 ^ (i + 1) ≤ 10 ^ 19 = tens (i + 1) (omega arith) in
    record {
      low = here.0;
      more = ap (λ x. digits_value 10 (take i ds) * 10 + x) (sym (digit_value-digit _ here.0 here.1)) ∙ sym (digits_value_more 10 ds i lt);
      fits = let bound' : digits_value 10 (take (i + 1) ds) < 10 ^ (i + 1) = subst (λ (k : ℕ). digits_value 10 (take (i + 1) ds) < 10 ^ k) long bound in omega arith;
    }

-- a run of digits that stops is cut in one place
pub one_cut : (ds es t u : List ℕ) → ds ++ t ≡ es ++ u → AllDigits 10 ds → AllDigits 10 es → Stops t → Stops u → (ds ≡ es) × (t ≡ u)
one_cut [] [] t u e hd he st su = (refl, e)
one_cut [] (x ∷ es) t u e hd he st su =
    let digit = digit_from_value x he.0 in
    let first : get_or t 0 0 ≡ x = ap (λ l. get_or l 0 0) e in
    absurd (st (omega arith) (omega arith))
one_cut (x ∷ ds) [] t u e hd he st su =
    let digit = digit_from_value x hd.0 in
    let first : x ≡ get_or u 0 0 = ap (λ l. get_or l 0 0) e in
    absurd (su (omega arith) (omega arith))
one_cut (x ∷ ds) (y ∷ es) t u e hd he st su =
    let tails = one_cut ds es t u (ap (drop 1) e) hd.1 he.1 st su in
    (let first : x ≡ y = ap (λ l. get_or l 0 0) e in let rest = tails.0 in cc, tails.1)

short_64 : (n : ℕ) → Short n → n < 2 ^ 64
short_64 n h = omega arith

-- a short number's text, in the format's words
pub number_text : (n : ℕ) → Short n → NumberText (decimal n)
number_text n short =
    let wide = short_64 n short in
    record {
      digits = digits_decimal own n wide;
      some = decimal_nonempty n wide;
      few = length-decimal-le 19 n (omega arith) short wide;
      no_leading_zero = λ z. zero_alone (cases_eq n 0) z;
    }
  where
    zero_alone : (n ≡ 0) ⊎ (n ≡ 0 → ⊥) → get_or (decimal n) 0 0 ≡ 48 → length (decimal n) ≡ 1
    zero_alone (inl e) z = ap (λ k. length (decimal k)) e ∙ ap length (decimal_digit 0 (omega arith))
    zero_alone (inr f) z = let wide = short_64 n short in let big = first_decimal n (omega arith) wide in absurd (omega arith)

pub numbers_are_digits : NumbersAreDigits
numbers_are_digits =
    record {
      reads = λ ds h.
          let bound = digits_value-lt 10 ds h.digits in
          let small : 10 ^ length ds ≤ 10 ^ 19 = tens (length ds) h.few in
          (digits_value 10 ds, (omega arith, sym (decimal-digits_value own ds h.digits h.some h.no_leading_zero (omega arith))));
      writes = number_text;
    }

-- where a number stands in front, the longest run of digits is its text
pub run_is : (s : List ℕ) (len n : ℕ) (t : List ℕ) → Run s len → Short n → Stops t → s ≡ decimal n ++ t → (take len s ≡ decimal n) × (drop len s ≡ t)
run_is s len n t run short stops is =
    one_cut (take len s) (decimal n) (drop len s) t (take-append-drop len s ∙ is) run.digits (number_text n short).digits run.stops stops

pub natural_none : (s : List ℕ) (len : ℕ) → Run s len → (NumberText (take len s) → ⊥) → NoNatural s
natural_none s len run bad n t short stops is = bad (subst NumberText (sym (run_is s len n t run short stops is).0) (number_text n short))

pub natural_some : (s : List ℕ) (len n : ℕ) → Run s len → NumberText (take len s) → n ≡ digits_value 10 (take len s) → NumberAt s (pos n) (length (take len s))
unfolding numbers_are_digits
natural_some s len n run number is =
    rw (is, length-take-le len s run.within) record {
      short = (numbers_are_digits.reads (take len s) number).1.0;
      text = (numbers_are_digits.reads (take len s) number).1.1;
      stops = run.stops;
      within = run.within;
    }

digits_upto : (s : List ℕ) (n : ℕ) → AllWithin IsAsciiDigit s 0 n → AllDigits 10 (take n s)
digits_upto [] zero h = tt
digits_upto [] (suc n) h = tt
digits_upto (d ∷ ds) zero h = tt
digits_upto (d ∷ ds) (suc n) h =
    let here : IsAsciiDigit d = h 0 0 (omega arith) (omega arith) in
    (let same = digit_value-digit d here.0 here.1 in omega arith, digits_upto ds n (λ k e lo hi. h (suc k) e (omega arith) (omega arith)))

-- the digits before the first byte that is none
pub run_upto : (s : List ℕ) (at : Option ℕ) → MatchOption at (AllWithin IsAsciiDigit s 0 (length s)) (λ i. (i < length s) × HoldsAt IsNotAsciiDigit s i × AllWithin IsAsciiDigit s 0 i) → Run s (unwrap_or at (length s))
run_upto s None h =
    record {
      within = omega arith;
      digits = digits_upto s (length s) h;
      stops = λ lo hi. let none : get_or (drop (length s) s) 0 0 ≡ 0 = ap (λ l. get_or l 0 0) (drop_all (length s) s (omega arith)) in omega arith;
    }
run_upto s (Some n) h =
    record {
      within = omega arith;
      digits = digits_upto s n h.2;
      stops = λ lo hi.
          let here : get_or (drop n s) 0 0 ≡ get_or s n 0 = get_or-drop n s 0 0 ∙ ap (λ i. get_or s i 0) (add-zero n) in
          absurd (⊎_elim (λ below. omega arith) (λ above. omega arith) (h.1 0));
    }

-- a decimal that stops is read in one way
pub decimal_one : (m n : ℕ) (t u : List ℕ) → Short m → Short n → Stops t → Stops u → decimal m ++ t ≡ decimal n ++ u → (m ≡ n) × (t ≡ u)
decimal_one m n t u sm sn st su is =
    let cut = one_cut (decimal m) (decimal n) t u is (number_text m sm).digits (number_text n sn).digits st su in
    (decimal_injective m n (short_64 m sm) (short_64 n sn) cut.0, cut.1)

-- a decimal begins with no minus
no_minus : (n : ℕ) (t r : List ℕ) → Short n → 45 ∷ r ≡ decimal n ++ t → ⊥
no_minus n t r short is =
    let text = number_text n short in
    let first = digit_at (decimal n) 0 text.digits text.some in
    let same : 45 ≡ get_or (decimal n) 0 0 = ap (λ l. get_or l 0 0) is ∙ get_or_append_left (decimal n) t 0 0 text.some in
    omega arith

module _ (s r : List ℕ) (minus : s ≡ 45 ∷ r) where
  pub minus_none : NoNatural r → NoInteger s
  minus_none none (pos n) t short stops is = no_minus n t r short (sym minus ∙ is)
  minus_none none (negsuc n) t short stops is = none (suc n) t short stops (ap (drop 1) (sym minus ∙ is))

  pub minus_zero : (len : ℕ) → NumberAt r (pos 0) len → NoInteger s
  minus_zero len here (pos n) t short stops is = no_minus n t r short (sym minus ∙ is)
  minus_zero len here (negsuc n) t short stops is =
      let whole = ap (λ l. l ++ drop len r) (sym here.text) ∙ take-append-drop len r ∙ ap (drop 1) (sym minus ∙ is) in
      let same = (decimal_one 0 (suc n) (drop len r) t here.short short here.stops stops whole).0 in
      omega arith

  pub minus_some : (n len : ℕ) (z : ℤ) → z ≡ neg_ℤ (pos n) → NumberAt r (pos n) len → (n ≡ 0 → ⊥) → NumberAt s z (len + 1)
  minus_some zero len z is here some = absurd (some refl)
  minus_some (suc n) len z is here some =
      rw (is, minus, add-one) record {
        short = here.short;
        text = ap (λ l. 45 ∷ l) here.text;
        stops = here.stops;
        within = let w = here.within in omega arith;
      }

-- a number that stops is read in one way
pub signed_one : (y z : ℤ) (t u : List ℕ) → ShortZ y → ShortZ z → Stops t → Stops u → signed_decimal y ++ t ≡ signed_decimal z ++ u → (y ≡ z) × (t ≡ u)
signed_one (pos m) (pos n) t u sy sz st su is = let one = decimal_one m n t u sy sz st su is in (ap pos one.0, one.1)
signed_one (pos m) (negsuc n) t u sy sz st su is = absurd (no_minus m t (decimal (suc n) ++ u) sy (sym is))
signed_one (negsuc m) (pos n) t u sy sz st su is = absurd (no_minus n u (decimal (suc m) ++ t) sz is)
signed_one (negsuc m) (negsuc n) t u sy sz st su is =
    let one = decimal_one (suc m) (suc n) t u sy sz st su (ap (drop 1) is) in
    (let same : m ≡ n = (let e = one.0 in omega arith) in ap negsuc same, one.1)

-- a slice pattern's first byte and the rest that it binds
pub front : (s : List ℕ) (b : ℕ) → 0 < length s → get_or s 0 0 ≡ b → s ≡ b ∷ take (length s - 1) (drop 1 s)
front s b some is = first_rest s 0 some ∙ ap (λ x. x ∷ take (length s - 1) (drop 1 s)) is
