-- A count by sums that wrap, which that of fewer than 2 ^ 64 rows does not.
use Rattle.std.proofs.Common.{◌≡◌, ℕ, ◌+◌, ◌%◌, ◌^◌, ◌<◌, ◌≤◌, Bool, true, false, cond, List, [], ◌∷◌, length, refl, ap, ◌∙◌, count_by, arith}
use Rattle.std.specs.List.{fold}

at_most_one : (b : Bool) → cond b 1 0 ≤ 1
at_most_one true = omega arith
at_most_one false = omega arith

whole : (n k : ℕ) → n + k < 2 ^ 64 → (n + k) % 2 ^ 64 ≡ n + k
whole n k h = omega arith

unwrapped : {X : Type 0} (p : X → Bool) (n : ℕ) (xs : List X) → n + length xs < 2 ^ 64 → fold (λ m x. (m + cond (p x) 1 0) % 2 ^ 64) n xs ≡ fold (λ m x. m + cond (p x) 1 0) n xs
unwrapped p n [] h = refl
unwrapped p n (x ∷ xs) h =
    let one = at_most_one (p x) in
    ap (λ k. fold (λ m y. (m + cond (p y) 1 0) % 2 ^ 64) k xs) (whole n (cond (p x) 1 0) (omega arith)) ∙ unwrapped p (n + cond (p x) 1 0) xs (omega arith)

pub counted : {X : Type 0} (p : X → Bool) (xs : List X) → length xs < 2 ^ 64 → fold (λ m x. (m + cond (p x) 1 0) % 2 ^ 64) 0 xs ≡ count_by p xs
counted p xs h = unwrapped p 0 xs (omega arith)
