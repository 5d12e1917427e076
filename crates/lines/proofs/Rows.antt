-- The fields of a line, one after the other.
use Rattle.std.proofs.Common.{◌≡◌, ℕ, zero, suc, ◌+◌, ◌^◌, ◌<◌, ◌≤◌, Bool, true, false, List, [], ◌∷◌, ◌++◌, map, length, get_or, take, drop, set, ℤ, pos, negsuc, ◌<ℤ◌, Decides, MatchOption, sym, refl, ap, ◌∙◌, subst, append_assoc, arith, take-append-drop, length-drop}
use Rattle.std.specs.Bool.{then_some}
use Rattle.std.specs.Fmt.{signed_decimal}
use Rattle.std.specs.List.{AllByRecursion}
use Rattle.std.proofs.lemmas.Bool.{both_ways}
use Rattle.std.proofs.lemmas.Int.{ints}
use Rattle.std.proofs.lemmas.List.{append-nil, take_more_set, take_all, drop_more, drop_all, drop-drop, length-take-le}
use Rattle.lines.specs.Fields.{Each, Written, minus}
use Rattle.lines.specs.Numbers.{ShortZ}
use Rattle.lines.specs.Steps.{Stops, NumberAt, Takes, NoField, Row, NoRow, numbers, left, entry, Inside, blank, listed_from}
use Rattle.lines.specs.Texts.{entries, tail}
use Rattle.lines.specs.declared.cursor.Cursor.{Cursor}
use Rattle.lines.specs.declared.cursor.Token.{Token}
use Rattle.lines.specs.declared.kind.Kind.{Kind}
use Rattle.lines.proofs.Digits.{signed_one}

pub short_written : (k : Kind) (z : ℤ) → Written k z → ShortZ z
short_written k (pos n) h = h
short_written k (negsuc n) h = h.0

written : (k : Kind) (z : ℤ) → ShortZ z → (z <ℤ pos 0 → minus k ≡ true) → Written k z
written k (pos n) short may = short
written k (negsuc n) short may = (short, may (omega (arith, ints)))

below : (z : ℤ) → ShortZ z → z <ℤ pos (10 ^ 19)
below (pos n) short = omega (arith, ints)
below (negsuc n) short = omega (arith, ints)

-- a number below 0 is written only where a minus may stand
unwritten : (k : Kind) (z : ℤ) → z <ℤ pos 0 → Written k z → minus k ≡ true
unwritten k (pos n) below h = absurd (omega (arith, ints))
unwritten k (negsuc n) below h = h.1

module _ (s r : List ℕ) (k : Kind) (space : s ≡ 32 ∷ r) where
  pub no_minus : (z : ℤ) (len : ℕ) → NumberAt r z len → z <ℤ pos 0 → minus k ≡ false → NoField s k
  no_minus z len here below never y t w stops is =
      let whole = ap (λ l. l ++ drop len r) (sym here.text) ∙ take-append-drop len r ∙ ap (drop 1) (sym space ∙ is) in
      let one = (signed_one z y (drop len r) t here.short (short_written k y w) here.stops stops whole).0 in
      both_ways (minus k) never (unwritten k z below (subst (Written k) (sym one) w))

  pub takes : (old new : Cursor) (t : Token) → left old ≡ s → NumberAt r t.number t.len → (t.number <ℤ pos 0 → minus k ≡ true) → t.place ≡ old.place + 1 → new.line.now ≡ old.line.now → new.place ≡ t.place + t.len → Takes old k t new
  takes old new t whole here may place line next =
      let after : drop t.place old.line.now ≡ r = ap (λ at. drop at old.line.now) place ∙ sym (drop-drop 1 old.place old.line.now) ∙ ap (drop 1) (whole ∙ space) in
      let later : left new ≡ drop t.len r = (λ j. drop (next j) (line j)) ∙ sym (drop-drop t.len t.place old.line.now) ∙ ap (drop t.len) after in
      record {
        written = written k t.number here.short may;
        bytes = ap (take t.len) after ∙ here.text;
        place = place;
        split = whole ∙ space ∙ ap (λ l. 32 ∷ l) (sym (take-append-drop t.len r) ∙ (λ j. here.text j ++ sym later j));
        stops = subst Stops (sym later) here.stops;
        line = line;
        next = let long = sym (length-take-le t.len r here.within) ∙ ap length here.text in omega arith;
        inside = record {
          part = let within = here.within in let some = ap length (whole ∙ space) in omega (arith, length-drop old.place old.line.now);
          short = below t.number here.short;
        };
      }

pub stops_tail : (zs : List ℤ) → Stops (tail zs)
stops_tail [] lo hi = omega arith
stops_tail (z ∷ zs) lo hi = omega arith

-- some fields, and then t
abbrev pub onto : List ℤ → List ℕ → List ℕ
onto [] t = t
onto (z ∷ zs) t = 32 ∷ (signed_decimal z ++ onto zs t)

stops_onto : (zs : List ℤ) (t : List ℕ) → Stops t → Stops (onto zs t)
stops_onto [] t st = st
stops_onto (z ∷ zs) t st = λ lo hi. omega arith

-- what is left after some fields are the other fields
pub unread : (ks : List Kind) (i : ℕ) (ys zs : List ℤ) (left : List ℕ) → i ≤ length ks → Each Written (take i ks) ys → Each Written ks zs → (0 < i → Stops left) → onto ys left ≡ tail zs → (ws : List ℤ) × (Each Written (drop i ks) ws × (left ≡ tail ws))
unread [] zero [] zs left le ey ez st is = (zs, (ez, is))
unread [] zero (y ∷ ys) zs left le ey ez st is = absurd ey
unread [] (suc i) ys zs left le ey ez st is = absurd (omega arith)
unread (k ∷ ks) zero [] zs left le ey ez st is = (zs, (ez, is))
unread (k ∷ ks) zero (y ∷ ys) zs left le ey ez st is = absurd ey
unread (k ∷ ks) (suc i) [] zs left le ey ez st is = absurd ey
unread (k ∷ ks) (suc i) (y ∷ ys) [] left le ey ez st is = absurd ez
unread (k ∷ ks) (suc i) (y ∷ ys) (z ∷ zs) left le ey ez st is =
    let one = signed_one y z (onto ys left) (tail zs) (short_written k y ey.0) (short_written k z ez.0) (stops_onto ys left (st (omega arith))) (stops_tail zs) (ap (drop 1) is) in
    unread ks i ys zs left (omega arith) ey.1 ez.1 (λ h. st (omega arith)) one.1

no_end : (s : List ℕ) → (s ≡ 10 ∷ [] → ⊥) → NoRow s []
no_end s wrong [] h is = wrong is
no_end s wrong (z ∷ zs) h is = h

no_first : (s : List ℕ) (k : Kind) (ks : List Kind) → NoField s k → NoRow s (k ∷ ks)
no_first s k ks none [] h is = h
no_first s k ks none (z ∷ zs) h is = none z (tail zs) h.0 (stops_tail zs) is

module _ (old new : Cursor) (k : Kind) (ks : List Kind) (t : Token) (first : Takes old k t new) where
  no_others : NoRow (left new) ks → NoRow (left old) (k ∷ ks)
  no_others none zs h is =
      let others = unread (k ∷ ks) 1 (t.number ∷ []) zs (left new) (omega arith) (first.written, tt) h (λ more. first.stops) (sym first.split ∙ is) in
      none others.0 others.1.0 others.1.1

  row_more : (ts : List Token) → Row new.line.now new.place ks ts → Row old.line.now old.place (k ∷ ks) (t ∷ ts)
  row_more ts others =
      let line = first.line in
      let bytes = first.bytes in
      let place = first.place in
      let rest : map (entry old.line.now) ts ≡ entries (old.place + 1 + length (signed_decimal t.number)) (numbers ts) = ap (λ l. map (entry l) ts) (sym line) ∙ others.placed ∙ ap (λ at. entries at (numbers ts)) first.next in
      record {
        whole = first.split ∙ ap (λ l. 32 ∷ (signed_decimal t.number ++ l)) others.whole;
        written = (first.written, others.written);
        placed = λ j. record { bytes = bytes j; place = place j; number = t.number } ∷ rest j;
        inside = (first.inside, subst (λ l. AllByRecursion (Inside l) ts) line others.inside);
      }

-- what the fields that were found say about the whole row
pub record Sofar (line : List ℕ) (ks : List Kind) (i : ℕ) (found : List Token) (at : Cursor) : Type 0 where
  pub more : (ts : List Token) → Row at.line.now at.place (drop i ks) ts → Row line 2 ks (found ++ ts)
  pub none : NoRow (left at) (drop i ks) → NoRow (drop 2 line) ks

pub start : (ks : List Kind) (at : Cursor) → at.place ≡ 2 → Sofar at.line.now ks 0 [] at
start ks at two = record { more = λ ts. subst (λ n. Row at.line.now n ks ts) two; none = subst (λ n. NoRow (drop n at.line.now) ks) two }

pub again : (line : List ℕ) (at new : Cursor) (ks : List Kind) (i : ℕ) (d : Kind) (found : List Token) (t : Token) → Sofar line ks i (take i found) at → i < length ks → i < length found → Takes at (get_or ks i d) t new → Sofar line ks (i + 1) (take (i + 1) (set found i t)) new
again line at new ks i d found t so lt below first =
    rw (take_more_set found i t below) record {
      more = λ ts row. rw append_assoc (so.more (t ∷ ts) (rw (drop_more ks i d lt) (row_more at new (get_or ks i d) (drop (i + 1) ks) t first ts row)));
      none = λ no. so.none (rw (drop_more ks i d lt) (no_others at new (get_or ks i d) (drop (i + 1) ks) t first no));
    }

pub ended : (line : List ℕ) (at : Cursor) (ks : List Kind) (i : ℕ) (found : List Token) (b : Bool) → Sofar line ks i (take i found) at → i ≡ length ks → i ≡ length found → Decides b (left at ≡ 10 ∷ []) → MatchOption (then_some b found) (NoRow (drop 2 line) ks) (Row line 2 ks)
ended line at ks i found true so all full line_feed =
    let none = drop_all i ks (omega arith) in
    let every = take_all i found (omega arith) in
    let end : Row at.line.now at.place (drop i ks) [] = rw none record { whole = line_feed.0 refl; written = tt; placed = refl; inside = tt } in
    subst (Row line 2 ks) (append-nil (take i found) ∙ every) (so.more [] end)
ended line at ks i found false so all full line_feed =
    let none = drop_all i ks (omega arith) in
    so.none (rw none (no_end (left at) (λ is. both_ways false refl (line_feed.1 is))))

-- an array's tokens by their places
listed_is : (i n : ℕ) (ts : List Token) → i + n ≤ length ts → listed_from i n ts ≡ take n (drop i ts)
listed_is i zero ts h = refl
listed_is i (suc n) ts h =
    rw (drop_more ts i blank (omega arith)) (ap (λ l. get_or ts i blank ∷ l) (listed_is (i + 1) n ts (omega arith)))

pub listed_all : (n : ℕ) (ts : List Token) → length ts ≡ n → listed_from 0 n ts ≡ ts
listed_all n ts long = listed_is 0 n ts (omega arith) ∙ take_all n ts (omega arith)
