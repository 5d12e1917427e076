-- A line has one reading, and `read` gives it.
use Rattle.std.proofs.Common.{◌≡◌, ℕ, cond, ◌&&◌, eqb, List, [], ◌∷◌, ◌++◌, map, length, slice_index, take, drop, ℤ, Ok, Err, Result, sym, refl, ap, ◌∙◌, subst, inl, take-append-drop, rules}
use Rattle.std.proofs.lemmas.List.{take_at, append_cancel_left}
use Rattle.lines.specs.Fields.{Each, Written, Agree, schema}
use Rattle.lines.specs.Marks.{letters, Begins}
use Rattle.lines.specs.Steps.{Front, entry, numbers, InRanges, NotInRanges, malformed, out_of_range, ReadAs}
use Rattle.lines.specs.Reading as reading
use Rattle.lines.specs.Reading.{Says, Ranged, Tells, Reading, reads, no_mark, OneReading, OneAnswer, numbers_of, told}
use Rattle.lines.specs.Records.{mark_of, fields_of}
use Rattle.lines.specs.Sections.{MayCome}
use Rattle.lines.specs.Texts.{tail, entries}
use Rattle.lines.specs.declared.cursor.Token.{Token}
use Rattle.lines.specs.declared.kind.Kind.{Kind}
use Rattle.lines.specs.declared.mark.Mark.{Mark}
use Rattle.lines.specs.declared.mark.Mark.TheVariants.{Reactor, Input, Output, Timer, Action, Connection, Reaction, Trigger, Write, Schedule, Stop, Bytecode, Instruction, Table, Row, Start, Offer, Advance}
use Rattle.lines.specs.declared.records.Record.{Record}
use Rattle.refusals.specs.declared.refusal.Refusal.{Refusal}
use Rattle.refusals.specs.declared.refusal.Refusal.TheVariants.{OutOfRange}
use Rattle.lines.specs.declared.section.Section.{Section}
use Rattle.lines.proofs.Digits.{signed_one}
use Rattle.lines.proofs.Rows.{short_written, stops_tail}

-- the mark with these letters
abbrev which : List ℕ → List Mark → Mark
which line [] = Reactor
which line (m ∷ ms) = cond (eqb (slice_index line 0) (slice_index (letters m) 0) && eqb (slice_index line 1) (slice_index (letters m) 1)) m (which line ms)

all : List Mark
all = Reactor ∷ Input ∷ Output ∷ Timer ∷ Action ∷ Connection ∷ Reaction ∷ Trigger ∷ Write ∷ Schedule ∷ Stop ∷ Bytecode ∷ Instruction ∷ Table ∷ Row ∷ Start ∷ Offer ∷ Advance ∷ []

which_letters : (m : Mark) → which (letters m) all ≡ m
unfolding all
which_letters m = search rules

two_letters : (m : Mark) → length (letters m) ≡ 2
two_letters m = search rules

-- two marks never share their letters
pub same_mark : (m n : Mark) → letters m ≡ letters n → m ≡ n
same_mark m n e = sym (which_letters m) ∙ ap (λ l. which l all) e ∙ which_letters n

begins : (line : List ℕ) (m : Mark) (zs : List ℤ) → Says line m zs → Begins line m
begins line m zs says = ap (take 2) says.whole ∙ take_at (letters m) (tail zs) 2 (two_letters m)

one_tail : (ks : List Kind) (ys zs : List ℤ) → Each Written ks ys → Each Written ks zs → tail ys ≡ tail zs → ys ≡ zs
one_tail [] [] [] ey ez is = refl
one_tail [] [] (z ∷ zs) ey ez is = absurd ez
one_tail [] (y ∷ ys) zs ey ez is = absurd ey
one_tail (k ∷ ks) [] zs ey ez is = absurd ey
one_tail (k ∷ ks) (y ∷ ys) [] ey ez is = absurd ez
one_tail (k ∷ ks) (y ∷ ys) (z ∷ zs) ey ez is =
    let one = signed_one y z (tail ys) (tail zs) (short_written k y ey.0) (short_written k z ez.0) (stops_tail ys) (stops_tail zs) (ap (drop 1) is) in
    let rest = one_tail ks ys zs ey.1 ez.1 one.1 in
    λ j. one.0 j ∷ rest j

pub one_reading : OneReading
one_reading line m n ys zs p q =
    let same = same_mark m n (sym (begins line m ys p) ∙ begins line n zs q) in
    let q' = subst (λ k. Says line k zs) (sym same) q in
    (same, one_tail (schema m) ys zs p.written q'.written (append_cancel_left (letters m) (tail ys) (tail zs) (sym p.whole ∙ q'.whole)))

answers : (section : Section) (line : List ℕ) {p q : Result Record Refusal} → Reading section line p → Reading section line q → told p ≡ told q
answers section line (reads r may t) (reads s also u) =
    let one = one_reading line (mark_of r) (mark_of s) (numbers_of r) (numbers_of s) t.says u.says in
    let fields = t.fields ∙ ap (entries 2) one.1 ∙ sym u.fields in
    λ j. inl (one.0 j, fields j)
answers section line (reads r may t) (no_mark none) = absurd (none (mark_of r) may (begins line (mark_of r) (numbers_of r) t.says))
answers section line (reads r may t) (reading.malformed m also b none) =
    let same = same_mark (mark_of r) m (sym (begins line (mark_of r) (numbers_of r) t.says) ∙ b) in
    absurd (none (numbers_of r) (subst (λ k. Says line k (numbers_of r)) same t.says))
answers section line (reads r may t) (reading.out_of_range m zs also says out) =
    let one = one_reading line (mark_of r) m (numbers_of r) zs t.says says in
    absurd (out (subst (λ l. Ranged m l) one.1 (subst (λ k. Ranged k (numbers_of r)) one.0 t.ranged)))
answers section line (no_mark none) (reads r may t) = absurd (none (mark_of r) may (begins line (mark_of r) (numbers_of r) t.says))
answers section line (no_mark none) (no_mark also) = refl
answers section line (no_mark none) (reading.malformed m may b also) = absurd (none m may b)
answers section line (no_mark none) (reading.out_of_range m zs may says out) = absurd (none m may (begins line m zs says))
answers section line (reading.malformed m also b none) (reads r may t) =
    let same = same_mark (mark_of r) m (sym (begins line (mark_of r) (numbers_of r) t.says) ∙ b) in
    absurd (none (numbers_of r) (subst (λ k. Says line k (numbers_of r)) same t.says))
answers section line (reading.malformed m may b none) (no_mark also) = absurd (also m may b)
answers section line (reading.malformed m may b none) (reading.malformed n also c nope) = refl
answers section line (reading.malformed m may b none) (reading.out_of_range n zs also says out) =
    absurd (none zs (subst (λ k. Says line k zs) (same_mark n m (sym (begins line n zs says) ∙ b)) says))
answers section line (reading.out_of_range m zs also says out) (reads r may t) =
    let one = one_reading line (mark_of r) m (numbers_of r) zs t.says says in
    absurd (out (subst (λ l. Ranged m l) one.1 (subst (λ k. Ranged k (numbers_of r)) one.0 t.ranged)))
answers section line (reading.out_of_range m zs may says out) (no_mark none) = absurd (none m may (begins line m zs says))
answers section line (reading.out_of_range n zs also says out) (reading.malformed m may b none) =
    absurd (none zs (subst (λ k. Says line k zs) (same_mark n m (sym (begins line n zs says) ∙ b)) says))
answers section line (reading.out_of_range m zs may says out) (reading.out_of_range n ys also tells none) = refl

pub one_answer : OneAnswer
one_answer section line p q a b = answers section line a b

pub same_front : (line : List ℕ) (m n : Mark) → Front line m → Begins line n → m ≡ n
same_front line m n front b = same_mark m n (sym front.begins ∙ b)

-- a line is its mark and what follows it
module _ (line : List ℕ) (m : Mark) (front : Front line m) where
  line_is : line ≡ letters m ++ drop 2 line
  line_is = sym (take-append-drop 2 line) ∙ ap (λ l. l ++ drop 2 line) front.begins

  says : (zs : List ℤ) → drop 2 line ≡ tail zs → Each Written (schema m) zs → Says line m zs
  says zs whole written = record { whole = line_is ∙ ap (λ l. letters m ++ l) whole; written = written }

  after : (zs : List ℤ) → Says line m zs → drop 2 line ≡ tail zs
  after zs s = append_cancel_left (letters m) (drop 2 line) (tail zs) (sym line_is ∙ s.whole)

  numbers_entries : (ts : List Token) → map (λ e. e.number) (map (entry line) ts) ≡ numbers ts
  numbers_entries [] = refl
  numbers_entries (t ∷ ts) = ap (λ l. t.number ∷ l) (numbers_entries ts)

  pub refused : (e : Refusal) → NotInRanges line (schema m) e → ReadAs m line (Err e)
  refused e (malformed none) section may = reading.malformed m may front.begins (λ zs s. none zs s.written (after zs s))
  refused e (out_of_range zs whole written out) section may = reading.out_of_range m zs may (says zs whole written) (λ ranged. out ranged.each)

  pub disagrees : (ts : List Token) → InRanges line (schema m) ts → (Agree m (numbers ts) → ⊥) → ReadAs m line (Err OutOfRange)
  disagrees ts found out section may = reading.out_of_range m (numbers ts) may (says (numbers ts) found.row.whole found.row.written) (λ ranged. out ranged.agree)

  pub recorded : (ts : List Token) (r : Record) → InRanges line (schema m) ts → Agree m (numbers ts) → mark_of r ≡ m → fields_of r ≡ map (entry line) ts → ReadAs m line (Ok r)
  recorded ts r found agree mark fields section may =
      let ns : numbers_of r ≡ numbers ts = ap (map (λ e. e.number)) fields ∙ numbers_entries ts in
      let tells : Tells line r = record {
        says = rw (mark, ns) (says (numbers ts) found.row.whole found.row.written);
        ranged = rw (mark, ns) record { each = found.within; agree = agree };
        fields = fields ∙ found.row.placed ∙ ap (entries 2) (sym ns);
      } in
      reads r (subst (MayCome section) (sym mark) may) tells
