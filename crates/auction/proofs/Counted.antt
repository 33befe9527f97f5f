-- Counts of what passes a test, where one element changes.
use Rattle.std.proofs.Common.{◌≡◌, ℕ, zero, suc, ◌+◌, ◌*◌, ◌<◌, ◌≤◌, Bool, true, false, cond, List, [], ◌∷◌, length, get_or, set, replicate, count_by, ap, ◌∙◌, arith}
use Rattle.std.proofs.lemmas.List.Folds.{sum_by-replicate}
use Rattle.std.proofs.lemmas.List.Sums.{sum_by-cons, sum_by-set, count_by-le-length}

abbrev pub one : Bool → ℕ
one b = cond b 1 0

pub one_most : (b : Bool) → one b ≤ 1
one_most true = omega arith
one_most false = omega arith

pub count_set : {X : Type 0} (p : X → Bool) (xs : List X) (i : ℕ) (y d : X) → i < length xs →
    count_by p (set xs i y) + one (p (get_or xs i d)) ≡ count_by p xs + one (p y)
count_set p xs i y d l = sum_by-set (λ x. cond (p x) 1 0) xs i y d l

-- Where one does not pass, not all do.
pub count_short : {X : Type 0} (p : X → Bool) (xs : List X) (i : ℕ) (d : X) → i < length xs → p (get_or xs i d) ≡ false → count_by p xs + 1 ≤ length xs
count_short p [] i d l e = absurd (omega arith)
count_short p (x ∷ xs) zero d l e =
    let z : one (p x) ≡ 0 = ap one e in
    omega (arith, z, sum_by-cons (λ y. cond (p y) 1 0) x xs, count_by-le-length p xs)
count_short p (x ∷ xs) (suc i) d l e =
    omega (arith, sum_by-cons (λ y. cond (p y) 1 0) x xs, count_short p xs i d (omega arith) e, one_most (p x))

pub none_counted : {X : Type 0} (p : X → Bool) (n : ℕ) (x : X) → p x ≡ false → count_by p (replicate n x) ≡ 0
none_counted p n x e = sum_by-replicate (λ y. cond (p y) 1 0) n x ∙ ap (λ b. n * one b) e ∙ omega arith
