-- A row, entry by entry: what is found in it, its total, and the step of the loop that looks for its best entry.
use Rattle.std.proofs.Common.{◌≡◌, ℕ, ◌+◌, ◌<◌, ◌≤◌, eqb, List, [], ◌∷◌, ◌++◌, length, get_or, Some, None, Option, sym, refl, ap, ◌∙◌, subst, arith, below_more}
use Rattle.std.proofs.lemmas.List.{append_assoc, length-append}
use Rattle.std.proofs.Math.Seq.{get_or-append_seam}
use Rattle.sources.specs.Meaning.{Rising, worth_in}
use Rattle.std.specs.List.{find}
use Rattle.std.specs.Option.{MatchOption, option_map, unwrap_or}
use Rattle.sources.proofs.Reading.{rising_apart}
use Rattle.rows.specs.Totals.{entry_job, entry_worth}

module _ (row : List (ℕ × ℕ)) (k job worth : ℕ) (l : k < length row) (is : get_or row k (0, 0) ≡ (job, worth)) where
  job_is : entry_job row k ≡ job
  job_is = ap (λ (e : ℕ × ℕ). e.0) is

  worth_is : entry_worth row k ≡ worth
  worth_is = ap (λ (e : ℕ × ℕ). e.1) is

-- ---- the best of the first k entries; worth 0 says that there is none

pub record BestOfFirst (row : List (ℕ × ℕ)) (k job worth : ℕ) : Type 0 where
  pub there : 0 < worth → (i : ℕ) × (i < k) × (get_or row i (0, 0) ≡ (job, worth))
  pub greatest : (i : ℕ) → i < k → entry_worth row i ≤ worth
  pub smallest : 0 < worth → (i : ℕ) → i < k → entry_worth row i ≡ worth → job ≤ entry_job row i

module _ (row : List (ℕ × ℕ)) (k job worth job' worth' : ℕ) (l : k < length row) (is : get_or row k (0, 0) ≡ (job', worth')) (best : BestOfFirst row k job worth) where
  pub takes : worth < worth' → BestOfFirst row (k + 1) job' worth'
  takes more =
      let w = worth_is row k job' worth' l is in
      let j = job_is row k job' worth' l is in
      record {
        there = λ _. (k, omega arith, is);
        greatest = below_more (λ i. entry_worth row i ≤ worth') k (λ i m. omega (arith, best.greatest i m)) (omega arith);
        smallest = λ _. below_more (λ i. entry_worth row i ≡ worth' → job' ≤ entry_job row i) k (λ i m e. absurd (omega (arith, best.greatest i m))) (λ _. omega arith);
      }

  pub keeps : Rising 0 row → worth' ≤ worth → BestOfFirst row (k + 1) job worth
  keeps rises no_more =
      let w = worth_is row k job' worth' l is in
      record {
        there = λ p. let t = best.there p in (t.0, omega (arith, t.1), t.2);
        greatest = below_more (λ i. entry_worth row i ≤ worth) k best.greatest (omega arith);
        smallest = λ p. below_more (λ i. entry_worth row i ≡ worth → job ≤ entry_job row i) k (best.smallest p)
            (λ _. let t = best.there p in
            let first : entry_job row t.0 ≡ job = ap (λ (e : ℕ × ℕ). e.0) t.2 in
            omega (arith, rising_apart 0 row rises t.0 k t.1 l, first));
      }

-- the worth of the first entry of a job, or 0 where it has none
pub worth_found : (row : List (ℕ × ℕ)) (j : ℕ) → unwrap_or (option_map (λ (e : ℕ × ℕ). e.1) (find (λ (e : ℕ × ℕ). eqb e.0 j) row)) 0 ≡ worth_in row j
worth_found [] j = refl
worth_found (e ∷ row) j = grind (arith, worth_found row j)

-- what a `map_or` with 0 makes of an entry that may have been found
pub worth_or_zero : {P : ℕ × ℕ → Type 0} (r : Option (ℕ × ℕ)) (w : ℕ) → MatchOption r (w ≡ 0) P → ((e : ℕ × ℕ) → P e → w ≡ e.1) → w ≡ unwrap_or (option_map (λ (e : ℕ × ℕ). e.1) (option_map (λ e. e) r)) 0
worth_or_zero None w m h = m
worth_or_zero (Some e) w m h = h e m

-- what may be the best so far, as an entry; of worth 0 where there is none
abbrev pub entry_or_none : Option (ℕ × ℕ) → ℕ × ℕ
entry_or_none None = (0, 0)
entry_or_none (Some e) = e

abbrev pub IsWorth : Option (ℕ × ℕ) → Type 0
IsWorth best = MatchOption best (Unit {0}) (λ (e : ℕ × ℕ). 0 < e.1)

-- the entries that were seen and those that are left are the row, and the best of those that were seen is known
pub record BestSoFar (row seen left : List (ℕ × ℕ)) (best : Option (ℕ × ℕ)) : Type 0 where
  pub parts : seen ++ left ≡ row
  pub first : BestOfFirst row (length seen) (entry_or_none best).0 (entry_or_none best).1
  pub worth : IsWorth best

module _ (row seen left after : List (ℕ × ℕ)) (job worth : ℕ) (best : Option (ℕ × ℕ)) (so_far : BestSoFar row seen left best) (step : left ≡ (job, worth) ∷ after) where
  whole : seen ++ (job, worth) ∷ after ≡ row
  whole = ap (λ es. seen ++ es) (sym step) ∙ so_far.parts

  inside : length seen < length row
  inside = omega (arith, sym (ap length whole) ∙ length-append seen ((job, worth) ∷ after))

  is_next : get_or row (length seen) (0, 0) ≡ (job, worth)
  is_next = sym (ap (λ es. get_or es (length seen) (0, 0)) whole) ∙ get_or-append_seam seen (job, worth) after (0, 0)

  longer : length seen + 1 ≡ length (seen ++ (job, worth) ∷ [])
  longer = sym (length-append seen ((job, worth) ∷ []))

  parted : (seen ++ (job, worth) ∷ []) ++ after ≡ row
  parted = append_assoc seen ((job, worth) ∷ []) after ∙ whole

  pub takes_next : (entry_or_none best).1 < worth → BestSoFar row (seen ++ (job, worth) ∷ []) after (Some (job, worth))
  takes_next more = record {
    parts = parted;
    first = subst (λ n. BestOfFirst row n job worth) longer (takes row (length seen) (entry_or_none best).0 (entry_or_none best).1 job worth inside is_next so_far.first more);
    worth = omega arith;
  }

  pub keeps_best : Rising 0 row → worth ≤ (entry_or_none best).1 → BestSoFar row (seen ++ (job, worth) ∷ []) after best
  keeps_best rises no_more = record {
    parts = parted;
    first = subst (λ n. BestOfFirst row n (entry_or_none best).0 (entry_or_none best).1) longer (keeps row (length seen) (entry_or_none best).0 (entry_or_none best).1 job worth inside is_next so_far.first rises no_more);
    worth = so_far.worth;
  }

-- what a `map_or` with 0 makes of the best so far
pub most_is : {P : ℕ × ℕ → Type 0} (best : Option (ℕ × ℕ)) (most : ℕ) → MatchOption best (most ≡ 0) P → ((e : ℕ × ℕ) → P e → most ≡ e.1) → most ≡ (entry_or_none best).1
most_is None most m h = m
most_is (Some e) most m h = h e m
