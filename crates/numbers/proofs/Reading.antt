-- What reading takes: the bytes of a number, with anything behind them, and nothing else.
use Rattle.std.proofs.Common.{◌≡◌, ℕ, zero, suc, ◌+◌, ◌-◌, ◌*◌, ◌/◌, ◌%◌, ◌^◌, ◌<◌, ◌≤◌, true, false, cond, ◌&&◌, eqb, ltb, List, [], ◌∷◌, ◌++◌, length, get_or, take, drop, Ok, Err, Result, sym, refl, ap, ◌∙◌, ⊎_elim, pow-suc, add-one, arith}
use native.Mathlib.Nat.{one-le-pow, pow-le-pow_right}
use Rattle.std.proofs.lemmas.List.{drop_all, drop_more, get_or-take, length-drop, length-take}
use Rattle.std.proofs.lemmas.Bool.{cases_lt, cases_eq, lt-ltb, le-ltb, eq-eqb, ne_eqb, and_from, and_right}
use Rattle.std.specs.List.{AllByRecursion}
use Rattle.refusals.specs.declared.Refusal.{Refusal}
use Rattle.refusals.specs.declared.Refusal.TheVariants.{NumberCut, NumberPadded}
use Rattle.numbers.specs.Groups.{encoded, before, decoded_in}
use Rattle.numbers.specs.Reading.{placed, read_at}
use Rattle.numbers.proofs.Groups.{encoded_small, encoded_large}

decoded_last : (k b : ℕ) (bytes : List ℕ) → b < 128 → decoded_in (suc k) (b ∷ bytes) ≡ Ok (b, bytes)
unfolding decoded_in
decoded_last k b bytes small = rw (lt-ltb b 128 small)

decoded_more : (k b : ℕ) (bytes : List ℕ) → 128 ≤ b → decoded_in (suc k) (b ∷ bytes) ≡ before b (decoded_in k bytes)
unfolding decoded_in
decoded_more k b bytes large = rw (le-ltb b 128 large)

before_some : (b n : ℕ) (left : List ℕ) → (n ≡ 0 → ⊥) → before b (Ok (n, left)) ≡ Ok (b - 128 + 128 * n, left)
unfolding before
before_some b n left some = rw (ne_eqb n 0 some)

before_none : (b n : ℕ) (left : List ℕ) → n ≡ 0 → before b (Ok (n, left)) ≡ Err NumberPadded
unfolding before
before_none b n left none = rw (eq-eqb n 0 none)

-- one more group in front
read_more : (k n : ℕ) (behind : List ℕ) → 128 ≤ n → decoded_in k (encoded (n / 128) ++ behind) ≡ Ok (n / 128, behind)
    → decoded_in (suc k) (encoded n ++ behind) ≡ Ok (n, behind)
read_more k n behind l r =
    let b : 128 ≤ 128 + n % 128 = omega arith in
    let some : n / 128 ≡ 0 → ⊥ = omega arith in
    let e : 128 + n % 128 - 128 + 128 * (n / 128) ≡ n = omega arith in
    rw (encoded_large n l)
    (decoded_more k (128 + n % 128) (encoded (n / 128) ++ behind) b ∙ ap (before (128 + n % 128)) r
    ∙ before_some (128 + n % 128) (n / 128) behind some
    ∙ rw e)

-- what was written is read back, whatever lies behind it
pub read_back : (k n : ℕ) (behind : List ℕ) → n < 128 ^ suc k → decoded_in (suc k) (encoded n ++ behind) ≡ Ok (n, behind)
read_back zero n behind small =
    let s : n < 128 = omega arith in
    rw (encoded_small n s) (decoded_last zero n behind s)
read_back (suc k) n behind small =
    ⊎_elim
    (λ s. rw (encoded_small n s) (decoded_last (suc k) n behind s))
    (λ l. read_more (suc k) n behind l (read_back k (n / 128) behind (omega arith)))
    (cases_lt n 128)

-- bytes that are read as a number are the bytes of that number
accepted_more : (k b : ℕ) (bytes : List ℕ) (r : Result (ℕ × List ℕ) Refusal) (n : ℕ) (left : List ℕ) → b < 256 → 128 ≤ b
    → ((m : ℕ) (l : List ℕ) → r ≡ Ok (m, l) → (bytes ≡ encoded m ++ l) × (m < 128 ^ k))
    → before b r ≡ Ok (n, left) → (b ∷ bytes ≡ encoded n ++ left) × (n < 128 ^ suc k)
unfolding before
accepted_more k b bytes (Err e) n left byte large inner is = absurd (let z : ◌≡◌ {A = ℕ} 0 1 = cc in omega arith)
accepted_more k b bytes (Ok (m, l)) n left byte large inner is =
    ⊎_elim
    (λ none. absurd (let w : before b (Ok (m, l)) ≡ Err NumberPadded = before_none b m l none in let z : ◌≡◌ {A = ℕ} 0 1 = cc in omega arith))
    (λ some.
    let w : before b (Ok (m, l)) ≡ Ok (b - 128 + 128 * m, l) = before_some b m l some in
    let both : ◌≡◌ {A = ℕ × List ℕ} (n, left) (b - 128 + 128 * m, l) = cc in
    let en : n ≡ b - 128 + 128 * m = ap (λ (p : ℕ × List ℕ). p.0) both in
    let el : left ≡ l = ap (λ (p : ℕ × List ℕ). p.1) both in
    let q : n / 128 ≡ m = omega arith in
    let p : 128 + n % 128 ≡ b = omega arith in
    let i = inner m l refl in
    (rw (encoded_large n (omega arith), p, q, el) (ap (λ (zs : List ℕ). b ∷ zs) i.0), omega (arith, i.1)))
    (cases_eq m 0)

pub accepted : (k : ℕ) (bytes : List ℕ) (n : ℕ) (left : List ℕ) → AllByRecursion (λ b. b < 256) bytes → decoded_in k bytes ≡ Ok (n, left)
    → (bytes ≡ encoded n ++ left) × (n < 128 ^ k)
unfolding decoded_in
accepted zero bytes n left small is = absurd (let z : ◌≡◌ {A = ℕ} 0 1 = cc in omega arith)
accepted (suc k) [] n left small is = absurd (let z : ◌≡◌ {A = ℕ} 0 1 = cc in omega arith)
accepted (suc k) (b ∷ bytes) n left (byte, small) is =
    ⊎_elim
    (λ s.
    let w : decoded_in (suc k) (b ∷ bytes) ≡ Ok (b, bytes) = decoded_last k b bytes s in
    let both : ◌≡◌ {A = ℕ × List ℕ} (n, left) (b, bytes) = cc in
    let en : n ≡ b = ap (λ (p : ℕ × List ℕ). p.0) both in
    let el : left ≡ bytes = ap (λ (p : ℕ × List ℕ). p.1) both in
    (rw (en, el, encoded_small b s), omega (arith, one-le-pow k 128 (omega arith))))
    (λ l. accepted_more k b bytes (decoded_in k bytes) n left byte l (λ m l' e. accepted k bytes m l' small e) (sym (decoded_more k b bytes l) ∙ is))
    (cases_lt b 128)

-- What is read in all, where v was read in k groups and r is what is read behind those.
unfoldable pub after : ℕ → ℕ → Result (ℕ × List ℕ) Refusal → Result (ℕ × List ℕ) Refusal
after k v (Err e) = Err e
after k v (Ok (n, left)) = cond (ltb 0 k && eqb n 0) (Err NumberPadded) (Ok (v + n * 128 ^ k, left))

-- a last group behind k others: padding, or part of the number
pub after_padded : (k v b : ℕ) (left : List ℕ) → (ltb 0 k && eqb b 0) ≡ true → after k v (Ok (b, left)) ≡ Err NumberPadded
unfolding after
after_padded k v b left padded = rw padded

pub after_last : (k v b : ℕ) (left : List ℕ) → (ltb 0 k && eqb b 0) ≡ false → after k v (Ok (b, left)) ≡ Ok (v + b * 128 ^ k, left)
unfolding after
after_last k v b left last = rw last

after_some : (k v n : ℕ) (left : List ℕ) → (n ≡ 0 → ⊥) → after k v (Ok (n, left)) ≡ Ok (v + n * 128 ^ k, left)
after_some k v n left some = after_last k v n left (and_right (ltb 0 k) (eqb n 0) (ne_eqb n 0 some))

pub after_none : (r : Result (ℕ × List ℕ) Refusal) → after 0 0 r ≡ r
unfolding after
after_none (Err e) = refl
after_none (Ok (n, left)) = let a : 0 + n * 128 ^ 0 ≡ n = omega arith in rw a

spread : (v d m p : ℕ) → v + (d + 128 * m) * p ≡ v + d * p + m * (p * 128)
spread v d m p = omega arith

pub after_more : (k v b : ℕ) (r : Result (ℕ × List ℕ) Refusal) → 128 ≤ b → after k v (before b r) ≡ after (k + 1) (v + (b - 128) * 128 ^ k) r
unfolding after before
after_more k v b (Err e) large = refl
after_more k v b (Ok (m, left)) large =
    ⊎_elim
    (λ none. ap (after k v) (before_none b m left none) ∙ sym (after_padded (k + 1) (v + (b - 128) * 128 ^ k) m left (and_from (ltb 0 (k + 1)) (eqb m 0) (lt-ltb 0 (k + 1) (omega arith)) (eq-eqb m 0 none))))
    (λ some.
    let e : v + (b - 128 + 128 * m) * 128 ^ k ≡ v + (b - 128) * 128 ^ k + m * 128 ^ (k + 1) = rw (add-one, pow-suc 128 k) (spread v (b - 128) m (128 ^ k)) in
    ap (after k v) (before_some b m left some) ∙ after_some k v (b - 128 + 128 * m) left (omega arith) ∙ rw e (sym (after_some (k + 1) (v + (b - 128) * 128 ^ k) m left some)))
    (cases_eq m 0)

-- the powers that are met
pub pow_le : (k : ℕ) → k ≤ 6 → 128 ^ k ≤ 2 ^ 42
pow_le k small = pow-le-pow_right {n = 128} (omega arith) {i = k} {j = 6} small

-- what is read of the rest behind k groups, where the groups are the bytes at a place, and at most six
module _ (bytes groups : List ℕ) (at : ℕ) (are : groups ≡ take 6 (drop at bytes)) where
  pub groups_few : length groups ≤ 6
  groups_few = omega (arith, ap length are, length-take 6 (drop at bytes))

  module _ (k : ℕ) (few : k < 6) where
    left : 6 - k ≡ suc (5 - k)
    left = omega arith

    pub at_end : length groups ≤ k → decoded_in (6 - k) (drop k (drop at bytes)) ≡ Err NumberCut
    unfolding decoded_in
    at_end past =
        let all : length (drop at bytes) ≤ k = omega (arith, ap length are, length-take 6 (drop at bytes)) in
        rw (drop_all k (drop at bytes) all, left)

  module _ (k : ℕ) (inside : k < length groups) where
    pub few : k < 6
    few = omega (arith, groups_few)

    pub group_inside : k < length (drop at bytes)
    group_inside = omega (arith, ap length are, length-take 6 (drop at bytes))

    module _ (b : ℕ) (is : b ≡ get_or groups k 0) where
      group_is : b ≡ get_or (drop at bytes) k 0
      group_is = is ∙ ap (λ gs. get_or gs k 0) are ∙ get_or-take 6 (drop at bytes) k 0 few

      pub at_last : b < 128 → decoded_in (6 - k) (drop k (drop at bytes)) ≡ Ok (b, drop (k + 1) (drop at bytes))
      at_last small = rw (drop_more (drop at bytes) k 0 group_inside, ← group_is, left k few) (decoded_last (5 - k) b (drop (k + 1) (drop at bytes)) small)

      pub at_more : 128 ≤ b → decoded_in (6 - k) (drop k (drop at bytes)) ≡ before b (decoded_in (6 - (k + 1)) (drop (k + 1) (drop at bytes)))
      at_more large =
          let e : 6 - (k + 1) ≡ 5 - k = omega arith in
          rw (e, drop_more (drop at bytes) k 0 group_inside, ← group_is, left k few) (decoded_more (5 - k) b (drop (k + 1) (drop at bytes)) large)

-- numbers of few groups, group by group
module _ (bytes : List ℕ) (at b : ℕ) (inside : at < length bytes) (is : b ≡ get_or bytes at 0) where
  group_there : drop at bytes ≡ b ∷ drop (at + 1) bytes
  group_there = drop_more bytes at 0 inside ∙ ap (λ x. x ∷ drop (at + 1) bytes) (sym is)

  pub group_last : (k : ℕ) → b < 128 → decoded_in (suc k) (drop at bytes) ≡ Ok (b, drop (at + 1) bytes)
  group_last k small = ap (decoded_in (suc k)) group_there ∙ decoded_last k b (drop (at + 1) bytes) small

  pub group_before : (k n : ℕ) (left : List ℕ) → 128 ≤ b → (n ≡ 0 → ⊥) → decoded_in k (drop (at + 1) bytes) ≡ Ok (n, left) → decoded_in (suc k) (drop at bytes) ≡ Ok (b - 128 + 128 * n, left)
  group_before k n left large some rest = ap (decoded_in (suc k)) group_there ∙ decoded_more k b (drop (at + 1) bytes) large ∙ ap (before b) rest ∙ before_some b n left some

pub read_is : (bytes : List ℕ) (at m n next end : ℕ) → decoded_in 6 (drop at bytes) ≡ Ok (m, drop end bytes) → n ≡ m → next ≡ end → end ≤ length bytes → Ok (n, next) ≡ read_at bytes at
read_is bytes at m n next end e value place inside =
    let l : length bytes - length (drop end bytes) ≡ end = omega (arith, length-drop end bytes) in
    rw (value, place) (sym (ap (placed bytes at) e ∙ ap (λ x. Ok (m, x)) l))
