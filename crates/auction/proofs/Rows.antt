-- Rows of entries: what a job is worth in a row.
use Rattle.std.proofs.Common.{◌≡◌, ℕ, zero, suc, ◌+◌, ◌<◌, ◌≤◌, eqb, List, [], ◌∷◌, length, get_or, refl, ◌∙◌, subst, arith}
use Rattle.std.proofs.lemmas.Bool.{cond_both, cond-true, cond-false, eq-eqb, ne_eqb, eqb-true}
use Rattle.sources.specs.Meaning.{worth_in, Rising}
use Rattle.sources.proofs.Reading.{rising_above}

abbrev pub job_in : List (ℕ × ℕ) → ℕ → ℕ
job_in row k = (get_or row k (0, 0)).0

abbrev pub worth_on : List (ℕ × ℕ) → ℕ → ℕ
worth_on row k = (get_or row k (0, 0)).1

-- an entry of a rising row is what its job is worth there
pub listed : (low : ℕ) (row : List (ℕ × ℕ)) → Rising low row → (k : ℕ) → k < length row → worth_in row (job_in row k) ≡ worth_on row k
listed low [] r k h = absurd (omega arith)
listed low (e ∷ row) r zero h = cond-true (eqb e.0 e.0) e.1 (worth_in row e.0) (eq-eqb e.0 e.0 refl)
listed low (e ∷ row) r (suc k) h =
    let above = rising_above (e.0 + 1) row r.1 k (omega arith) in
    cond-false (eqb e.0 (job_in row k)) e.1 (worth_in row (job_in row k)) (ne_eqb e.0 (job_in row k) (λ q. omega arith)) ∙ listed (e.0 + 1) row r.1 k (omega arith)

-- what holds of no worth, and of each entry, holds of each job
pub by_entries : (Q : ℕ → ℕ → Type 0) (row : List (ℕ × ℕ)) → ((j : ℕ) → Q j 0) → ((k : ℕ) → k < length row → Q (job_in row k) (worth_on row k)) → (j : ℕ) → Q j (worth_in row j)
by_entries Q [] none each j = none j
by_entries Q (e ∷ row) none each j =
    cond_both (eqb e.0 j) e.1 (worth_in row j) (λ w. Q j w)
    (λ q. subst (λ i. Q i e.1) (eqb-true e.0 j q) (each 0 (omega arith)))
    (λ q. by_entries Q row none (λ k h. each (suc k) (omega arith)) j)
