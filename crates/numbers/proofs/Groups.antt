-- What the bytes of a number are, group by group, and how many there are.
use Rattle.std.proofs.Common.{◌≡◌, ℕ, zero, suc, ◌+◌, ◌*◌, ◌/◌, ◌%◌, ◌^◌, ◌<◌, ◌≤◌, max, [], ◌∷◌, length, sym, refl, ap, ◌∙◌, ⊎_elim, pow-add, arith}
use Rattle.std.proofs.Math.Pow.{pow_mono}
use native.Mathlib.Nat.{one-le-pow}
use Rattle.std.proofs.lemmas.Bool.{cases_lt, lt-ltb, le-ltb}
use Rattle.numbers.specs.Groups.{groups, encoded}
use Rattle.numbers.specs.Laws.{Sized}

groups_small : (k n : ℕ) → n < 128 → groups (suc k) n ≡ n ∷ []
unfolding groups
groups_small k n small = rw (lt-ltb n 128 small)

groups_large : (k n : ℕ) → 128 ≤ n → groups (suc k) n ≡ (128 + n % 128) ∷ groups k (n / 128)
unfolding groups
groups_large k n large = rw (le-ltb n 128 large)

-- any bound above the number gives the same groups
groups_same : (j k n : ℕ) → n < j → n < k → groups j n ≡ groups k n
groups_same zero k n lj lk = absurd (omega arith)
groups_same (suc j) zero n lj lk = absurd (omega arith)
groups_same (suc j) (suc k) n lj lk =
    ⊎_elim
    (λ s. groups_small j n s ∙ sym (groups_small k n s))
    (λ l. groups_large j n l ∙ ap (λ gs. (128 + n % 128) ∷ gs) (groups_same j k (n / 128) (omega arith) (omega arith)) ∙ sym (groups_large k n l))
    (cases_lt n 128)

pub encoded_small : (n : ℕ) → n < 128 → encoded n ≡ n ∷ []
unfolding encoded
encoded_small n small = groups_small n n small

pub encoded_large : (n : ℕ) → 128 ≤ n → encoded n ≡ (128 + n % 128) ∷ encoded (n / 128)
unfolding encoded
encoded_large n large =
    groups_large n n large ∙ ap (λ gs. (128 + n % 128) ∷ gs) (groups_same n (suc (n / 128)) (n / 128) (omega arith) (omega arith))

pub encoded_some : (n : ℕ) → 1 ≤ length (encoded n)
encoded_some n =
    ⊎_elim
    (λ s. omega (arith, ap length (encoded_small n s)))
    (λ l. omega (arith, ap length (encoded_large n l)))
    (cases_lt n 128)

-- a number below 128^k has at most k groups, and no other has
pub encoded_few : (k n : ℕ) → n < 128 ^ suc k → length (encoded n) ≤ suc k
encoded_few zero n small = omega (arith, ap length (encoded_small n (omega arith)))
encoded_few (suc k) n small =
    ⊎_elim
    (λ s. omega (arith, ap length (encoded_small n s)))
    (λ l. omega (arith, ap length (encoded_large n l), encoded_few k (n / 128) (omega arith)))
    (cases_lt n 128)

pub encoded_below : (k n : ℕ) → length (encoded n) ≤ k → n < 128 ^ k
encoded_below zero n few = absurd (omega (arith, encoded_some n))
encoded_below (suc k) n few =
    ⊎_elim
    (λ s. omega (arith, one-le-pow k 128 (omega arith)))
    (λ l. let m : n / 128 < 128 ^ k = encoded_below k (n / 128) (omega (arith, ap length (encoded_large n l))) in omega arith)
    (cases_lt n 128)

pub sized : (n : ℕ) → Sized n
sized n = record { some = encoded_some n; few = encoded_few 5 n; small = encoded_below 6 n }

-- how many groups there are, from the powers of 128 around a number
not_fewer : (k n : ℕ) → 128 ^ k ≤ max n 1 → k < length (encoded n)
not_fewer zero n low = omega (arith, encoded_some n)
not_fewer (suc k) n low =
    ⊎_elim
    (λ few. absurd (omega (arith, one-le-pow k 128 (omega arith), encoded_below (suc k) n (omega arith))))
    (λ many. omega arith)
    (cases_lt (length (encoded n)) (suc (suc k)))

pub len_by_powers : (k n m : ℕ) → m ≡ max n 1 → 128 ^ k ≤ m → m < 128 * 128 ^ k → k + 1 ≡ length (encoded n)
len_by_powers k n m is low high =
    let few = encoded_few k n (omega arith) in
    omega (arith, few, not_fewer k n (omega arith))

powers : (k : ℕ) → 128 ^ k ≡ 2 ^ (7 * k)
powers zero = refl
powers (suc k) =
    let split : 2 ^ (7 * suc k) ≡ 2 ^ (7 * k + 7) = ap (λ e. 2 ^ e) (omega arith) in
    omega (arith, powers k, split, pow-add 2 (7 * k) 7)

-- the same from the powers of 2, seven of which are one of 128
pub len_by_bits : (b n m : ℕ) → m ≡ max n 1 → 2 ^ b ≤ m → m < 2 * 2 ^ b → b / 7 + 1 ≡ length (encoded n)
len_by_bits b n m is low high =
    let k = b / 7 in
    let below : 128 ^ k ≤ 2 ^ b = omega (arith, powers k, pow_mono {i = 7 * k} {j = b} (omega arith)) in
    let above : 2 * 2 ^ b ≤ 128 * 128 ^ k = omega (arith, powers (suc k), pow_mono {i = suc b} {j = 7 * suc k} (omega arith)) in
    len_by_powers k n m is (omega arith) (omega arith)
