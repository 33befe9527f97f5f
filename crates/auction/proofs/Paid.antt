-- What a list of jobs costs at a list of prices.
use Rattle.std.proofs.Common.{◌≡◌, ℕ, zero, suc, ◌+◌, ◌<◌, ◌≤◌, List, [], ◌∷◌, length, get_or, set, Some, None, sum, Option, sym, refl, ap, ◌∙◌, subst, ⊎_elim, arith}
use Rattle.std.proofs.lemmas.Option.{none-some, same_Some}
use Rattle.std.proofs.lemmas.Bool.{cases_lt, cases_eq}
use Rattle.std.proofs.lemmas.List.{get_or-set_same, get_or-set_other, set_past, get_or_past}
use Rattle.std.proofs.lemmas.List.Sums.{sum_by-set, sum_by-cons}

abbrev pub price_of : List ℕ → Option ℕ → ℕ
price_of ps None = 0
price_of ps (Some j) = get_or ps j 0

abbrev pub paid : List ℕ → List (Option ℕ) → ℕ
paid ps [] = 0
paid ps (o ∷ js) = price_of ps o + paid ps js

-- one price set to 0
pub zeroed : (ps : List ℕ) (j : ℕ) → sum (set ps j 0) + get_or ps j 0 ≡ sum ps
zeroed ps j =
    ⊎_elim (λ l. sum_by-set (λ x. x) ps j 0 0 l ∙ omega arith)
    (λ l. omega (arith, ap sum (set_past ps j 0 l), get_or_past ps j 0 l)) (cases_lt j (length ps))

pub zeroed_same : (ps : List ℕ) (j : ℕ) → get_or (set ps j 0) j 0 ≡ 0
zeroed_same ps j =
    ⊎_elim (λ l. get_or-set_same ps j 0 0 l)
    (λ l. ap (λ xs. get_or xs j 0) (set_past ps j 0 l) ∙ get_or_past ps j 0 l) (cases_lt j (length ps))

zeroed_le : (ps : List ℕ) (j k : ℕ) → get_or (set ps j 0) k 0 ≤ get_or ps k 0
zeroed_le ps j k =
    ⊎_elim (λ e. let z = zeroed_same ps j in subst (λ i. get_or (set ps j 0) i 0 ≤ get_or ps i 0) (sym e) (omega arith))
    (λ n. let z = get_or-set_other ps j k 0 0 n in omega arith) (cases_eq k j)

paid-apart : (ps : List ℕ) (j : ℕ) (js : List (Option ℕ)) → ((a : ℕ) → get_or js a None ≡ Some j → ⊥) → paid (set ps j 0) js ≡ paid ps js
paid-apart ps j [] h = refl
paid-apart ps j (None ∷ js) h = ap (λ n. 0 + n) (paid-apart ps j js (λ a. h (suc a)))
paid-apart ps j (Some k ∷ js) h =
    let one = get_or-set_other ps j k 0 0 (λ e. h 0 (ap Some e)) in
    let rest = paid-apart ps j js (λ a. h (suc a)) in
    omega arith

-- jobs that are all different cost no more than all jobs
pub paid_distinct : (js : List (Option ℕ)) (ps : List ℕ) → ((a b j : ℕ) → get_or js a None ≡ Some j → get_or js b None ≡ Some j → a ≡ b) → paid ps js ≤ sum ps
paid_distinct [] ps d = omega arith
paid_distinct (None ∷ js) ps d =
    let rest = paid_distinct js ps (λ a b j p q. let e = d (suc a) (suc b) j p q in omega arith) in omega arith
paid_distinct (Some k ∷ js) ps d =
    let rest = paid_distinct js (set ps k 0) (λ a b j p q. let e = d (suc a) (suc b) j p q in omega arith) in
    let same = paid-apart ps k js (λ a p. let e = d 0 (suc a) k refl p in omega arith) in
    let cut = zeroed ps k in
    omega arith

paid_mono : (ps qs : List ℕ) → ((k : ℕ) → get_or ps k 0 ≤ get_or qs k 0) → (js : List (Option ℕ)) → paid ps js ≤ paid qs js
paid_mono ps qs h [] = omega arith
paid_mono ps qs h (None ∷ js) = let rest = paid_mono ps qs h js in omega arith
paid_mono ps qs h (Some k ∷ js) = let rest = paid_mono ps qs h js in let one = h k in omega arith

sum_none : (ps : List ℕ) → ((j : ℕ) → get_or ps j 0 ≡ 0) → sum ps ≡ 0
sum_none [] h = refl
sum_none (p ∷ ps) h = let rest = sum_none ps (λ j. h (suc j)) in let one = h 0 in sum_by-cons (λ x. x) p ps ∙ omega arith

-- jobs among which is each with a price above 0 cost as much as all jobs
pub paid_covers : (js : List (Option ℕ)) (ps : List ℕ) → ((j : ℕ) → 0 < get_or ps j 0 → (a : ℕ) × (get_or js a None ≡ Some j)) → sum ps ≤ paid ps js
paid_covers [] ps c = let z = sum_none ps (λ j. ⊎_elim (λ l. absurd (none-some _ (c j l).1)) (λ l. omega arith) (cases_lt 0 (get_or ps j 0))) in omega arith
paid_covers (None ∷ js) ps c =
    let rest = paid_covers js ps (λ j l. later (c j l)) in omega arith
  where
    later : {j : ℕ} → (a : ℕ) × (get_or (None ∷ js) a None ≡ Some j) → (a : ℕ) × (get_or js a None ≡ Some j)
    later {j} w = go w.0 w.1
      where
        go : (a : ℕ) → get_or (None ∷ js) a None ≡ Some j → (a : ℕ) × (get_or js a None ≡ Some j)
        go zero e = absurd (none-some _ e)
        go (suc a) e = (a, e)
paid_covers (Some k ∷ js) ps c =
    let rest = paid_covers js (set ps k 0) cover in
    let less = paid_mono (set ps k 0) ps (zeroed_le ps k) js in
    let cut = zeroed ps k in
    omega arith
  where
    later : (j : ℕ) → (j ≡ k → ⊥) → (a : ℕ) → get_or (Some k ∷ js) a None ≡ Some j → (a : ℕ) × (get_or js a None ≡ Some j)
    later j n zero e = absurd (n (sym (same_Some _ _ e)))
    later j n (suc a) e = (a, e)

    cover : (j : ℕ) → 0 < get_or (set ps k 0) j 0 → (a : ℕ) × (get_or js a None ≡ Some j)
    cover j l =
        let n : j ≡ k → ⊥ = λ e. let z = zeroed_same ps k in let w : get_or (set ps k 0) j 0 ≡ 0 = subst (λ i. get_or (set ps k 0) i 0 ≡ 0) (sym e) z in omega arith in
        let w = c j (let z = get_or-set_other ps k j 0 0 n in omega arith) in
        later j n w.0 w.1
