-- Nets, read as `up - down`.
use Rattle.std.proofs.Common.{◌≡◌, ℕ, ◌+◌, ◌<◌, ◌≤◌, true, false, ltb, leb, ◌⊎◌, List, get_or, ℤ, pos, negsuc, ◌-ℤ◌, Some, sym, refl, inl, inr, ⊎_elim, arith}
use lib.Signed.{lt_z, le_z}
use borrow.Author.Differences.{up, down, ints, lt-true, lt-false, le-true, le-false, true_is_lt, false_is_lt}
use Rattle.std.proofs.lemmas.Bool.{cases_Bool, leb-true, ltb-true, ltb-false, or_cases, or_parts, and_parts, and_cases}
use Rattle.auction.specs.declared.bidding.Best.{Best}
use Rattle.auction.specs.Bids.{natural, beats, offer}
use Rattle.auction.specs.Standings.{best_risen}

pub natural-up : (z : ℤ) → natural z ≡ up z
natural-up (pos n) = refl
natural-up (negsuc n) = refl

pub sides : (z : ℤ) → (up z ≡ 0) ⊎ (down z ≡ 0)
sides (pos n) = inr refl
sides (negsuc n) = inl refl

pub net_is : (v p : ℕ) → up (pos v -ℤ pos p) + p ≡ v + down (pos v -ℤ pos p)
net_is v p = omega (arith, ints)

-- What it says that one net is better than another, and that it is not.
pub better : (x y : Best) → beats x y ≡ true →
    (up y.net + down x.net < up x.net + down y.net) ⊎ ((up y.net + down x.net ≤ up x.net + down y.net) × (x.job < y.job))
better x y t =
    ⊎_elim (λ l. inl (lt-true y.net x.net l))
    (λ l. let p = and_parts (le_z y.net x.net) (ltb x.job y.job) l in inr (le-true y.net x.net p.0, ltb-true x.job y.job p.1))
    (or_cases (lt_z y.net x.net) _ t)

pub no_better : (x y : Best) → beats x y ≡ false →
    (up x.net + down y.net ≤ up y.net + down x.net) × ((up x.net + down y.net < up y.net + down x.net) ⊎ (y.job ≤ x.job))
no_better x y t =
    let p = or_parts (lt_z y.net x.net) _ t in (
      lt-false y.net x.net p.0,
      ⊎_elim (λ l. inl (le-false y.net x.net l)) (λ l. inr (ltb-false x.job y.job l)) (and_cases (le_z y.net x.net) (ltb x.job y.job) p.1),
    )

pub beats-true : (x y : Best) → beats x y ≡ true → up y.net + down x.net ≤ up x.net + down y.net
beats-true x y t = ⊎_elim (λ l. omega (arith, l)) (λ l. l.0) (better x y t)

pub beats-false : (x y : Best) → beats x y ≡ false → up x.net + down y.net ≤ up y.net + down x.net
beats-false x y t = (no_better x y t).0

-- What is no better than a net is no better than one that beats it, and that net is not either.
pub still_no_better : (x y z : Best) → beats z x ≡ false → beats y x ≡ true → beats z y ≡ false
still_no_better x y z n t =
    ⊎_elim (λ w. absurd (⊎_elim (λ a. ⊎_elim (λ c. omega (arith, a, c, p)) (λ c. omega (arith, a, c, p)) (better z y w)) (λ a. ⊎_elim (λ c. omega (arith, a, c, p)) (λ c. ⊎_elim (λ d. omega (arith, a, c, d, p)) (λ d. omega (arith, a, c, d, p)) (no_better z x n).1) (better z y w)) (better y x t)))
    (λ w. w) (cases_Bool (beats z y))
  where
    p : up z.net + down x.net ≤ up x.net + down z.net
    p = (no_better z x n).0

pub not_itself : (x y : Best) → beats y x ≡ true → beats x y ≡ false
not_itself x y t =
    ⊎_elim (λ w. absurd (⊎_elim (λ a. ⊎_elim (λ c. omega (arith, a, c)) (λ c. omega (arith, a, c)) (better x y w)) (λ a. ⊎_elim (λ c. omega (arith, a, c)) (λ c. omega (arith, a, c)) (better x y w)) (better y x t)))
    (λ w. w) (cases_Bool (beats x y))

-- Whether the price has risen since the best job was seen.
pub risen_true : (ps : List ℕ) (x : Best) → x.worth + down x.net < get_or ps x.job 0 + up x.net → best_risen ps (Some x) ≡ true
risen_true ps x h = sym (true_is_lt (pos x.worth -ℤ x.net) (pos (get_or ps x.job 0)) (omega (arith, ints, h)))

pub risen_false : (ps : List ℕ) (x : Best) → get_or ps x.job 0 + up x.net ≤ x.worth + down x.net → best_risen ps (Some x) ≡ false
risen_false ps x h = sym (false_is_lt (pos x.worth -ℤ x.net) (pos (get_or ps x.job 0)) (omega (arith, ints, h)))

-- The best of a stale bid costs more than when it was seen.
pub stale_risen : (ps : List ℕ) (step r : ℕ) (x : Best) → 1 ≤ step → r ≤ natural x.net → lt_z (pos 0) x.net ≡ true → leb (offer step r x) (get_or ps x.job 0) ≡ true → best_risen ps (Some x) ≡ true
stale_risen ps step r x s u above low =
    let a = lt-true (pos 0) x.net above in let z = sides x.net in let n = natural-up x.net in let c = leb-true (offer step r x) (get_or ps x.job 0) low in
    risen_true ps x (omega (arith, a, z, n, u, s, c))
