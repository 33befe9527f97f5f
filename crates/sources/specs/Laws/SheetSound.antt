-- What a sheet means, from its rows, and that it is sound.
use Rattle.std.specs.Prelude.{◌≡◌, ℕ, zero, suc, ◌+◌, ◌-◌, ◌<◌, ◌≤◌, Bool, true, false, cond, ◌&&◌, ◌||◌, List, [], ◌∷◌, map, length, get_or, drop, is_some, Some, None, Decides, Option, ◌==◌, ◌≢◌, nat_eq, nat_le, nat_lt, slice_index, slice_index_or, refl}
use Rattle.std.proofs.Common.{sym, ap, subst, ◌∙◌, ⊎_elim, arith, add-zero}
use Rattle.std.specs.Option.{option_or}
use Rattle.std.specs.List.{HoldsAt, AllByRecursion}
use Rattle.std.proofs.lemmas.List.{length-map, length-take, length-drop, get_or-take, get_or-drop}
use Rattle.std.proofs.ByRecursion.{All-map, All-from_get_or}
use Rattle.std.proofs.lemmas.List.FromFn.{length-map-range_with_len}
use Rattle.std.proofs.lemmas.Bool.{true≢false, leb-true, ltb-true, eqb-true, and_parts, or_cases, cases_lt}
use Rattle.std.proofs.lemmas.Bool.Decides.{Decides-by_or, Decides-eqb}
use Rattle.sources.specs.Limits.{most_carriers, most_jobs, highest_ceiling, highest_worth}
use Rattle.sources.specs.Meaning.{Sound, Rising}
use Rattle.sources.specs.declared.records.Entry.{Entry}
use Rattle.sources.specs.declared.records.Heading.{Heading}
use Rattle.refusals.specs.declared.Refusal.{Refusal}
use Rattle.refusals.specs.declared.Refusal.TheVariants.{JobOutOfOrder, WorthOutside}
use Rattle.sources.specs.Sheets.{within_limits, blank, starts_good, last_of, starts_at, no_entry, job_at, worth_at, in_order, refusal_at, first_refusal, entries_in_rows, entry_refusal, pair_of, sheet_row, sheet_rows, sheet_of}
use Rattle.sources.specs.Laws.Indexed.{all_made}
use Rattle.sources.specs.Laws.Starts.{Started, started, mono}

-- jobs that rise from place to place rise along the row
rising_from : (low : ℕ) (es : List Entry) → (0 < length es → low ≤ job_at es 0) → ((k : ℕ) → suc k < length es → job_at es k < job_at es (suc k)) → Rising low (map pair_of es)
rising_from low [] first next = tt
rising_from low (e ∷ es) first next =
    (first (omega arith), rising_from (e.job + 1) es (λ l. omega (arith, next 0 (omega arith))) (λ k l. next (suc k) (omega arith)))

-- where there is no fault, there is none at any place
neither : (o p : Option Refusal) → is_some (option_or o p) ≡ false → (is_some o ≡ false) × (is_some p ≡ false)
neither None p e = (refl, e)
neither (Some r) p e = (e, absurd (true≢false e))

no_refusal : (f : ℕ → Option Refusal) (k n : ℕ) → is_some (first_refusal f k n) ≡ false → (j : ℕ) → j < n → is_some (f (k + j)) ≡ false
no_refusal f k zero e j l = absurd (omega arith)
no_refusal f k (suc n) e zero l = rw add-zero (neither (f k) (first_refusal f (k + 1) n) e).0
no_refusal f k (suc n) e (suc j) l =
    let p = no_refusal f (k + 1) n (neither (f k) (first_refusal f (k + 1) n) e).1 j (omega arith) in
    let q : (k + 1) + j ≡ k + suc j = omega arith in
    rw q at p

two_tests : (a b : Bool) → is_some (cond a (cond b None (Some WorthOutside)) (Some JobOutOfOrder)) ≡ false → (a ≡ true) × (b ≡ true)
two_tests true true e = (refl, refl)
two_tests true false e = absurd (true≢false e)
two_tests false b e = absurd (true≢false e)

pub has_start_lem : (starts : List ℕ) (k : ℕ) → Decides (starts_at starts k) ((j : ℕ) × (j < length starts) × HoldsAt (λ s. s ≡ k) starts j)
has_start_lem starts k = Decides-by_or (λ s. nat_eq s k) (λ s. s ≡ k) (λ ss. starts_at ss k) (λ s. Decides-eqb s k) refl (λ _ _. refl) starts

module _ (h : Heading) (starts : List ℕ) (entries : List Entry) (s : Started h starts (length entries)) (faultless : is_some (entry_refusal h starts (entries_in_rows h starts entries)) ≡ false) where
  length-listed : length (entries_in_rows h starts entries) ≡ last_of h starts
  length-listed = let e = s.ends in simp length-take (omega arith)

  good_at : (k : ℕ) → k < last_of h starts → (job_at (entries_in_rows h starts entries) k < h.jobs) × (in_order starts (entries_in_rows h starts entries) k ≡ true) × (1 ≤ worth_at (entries_in_rows h starts entries) k) × (worth_at (entries_in_rows h starts entries) k ≤ h.ceiling)
  good_at k l =
      let es = entries_in_rows h starts entries in
      let l' : k < length (entries_in_rows h starts entries) = rw length-listed l in
      let z : 0 + k ≡ k = omega arith in
      let n : is_some (refusal_at h starts (entries_in_rows h starts entries) k) ≡ false = subst (λ j. is_some (refusal_at h starts (entries_in_rows h starts entries) j) ≡ false) z (no_refusal (refusal_at h starts es) 0 (length es) faultless k l') in
      let t = two_tests (nat_lt (job_at es k) h.jobs && in_order starts es k) (nat_le 1 (worth_at es k) && nat_le (worth_at es k) h.ceiling) n in
      let p = and_parts (nat_lt (job_at es k) h.jobs) (in_order starts es k) t.0 in
      let q = and_parts (nat_le 1 (worth_at es k)) (nat_le (worth_at es k) h.ceiling) t.1 in
      (ltb-true (job_at es k) h.jobs p.0, p.1, leb-true 1 (worth_at es k) q.0, leb-true (worth_at es k) h.ceiling q.1)

  module _ (i : ℕ) (inside : i < h.carriers) where
    rises : get_or starts i 0 ≤ slice_index starts (i + 1)
    rises = s.rises i inside

    ends : get_or starts (i + 1) 0 ≤ last_of h starts
    ends = mono h starts (length entries) s (i + 1) h.carriers (omega arith) (omega arith)

    pub length_row : length (sheet_row starts entries i) ≡ slice_index starts (i + 1) - slice_index starts i
    length_row = let e = s.ends in let r = rises in let d = ends in simp (length-take, length-drop) (omega arith)

    place : (k : ℕ) → k < length (sheet_row starts entries i) → slice_index starts i + k < slice_index starts (i + 1)
    place k l = omega (arith, length_row)

    row_at : (k : ℕ) → k < length (sheet_row starts entries i) → slice_index_or (sheet_row starts entries i) k no_entry ≡ slice_index_or (entries_in_rows h starts entries) (slice_index starts i + k) no_entry
    row_at k l =
        get_or-take (slice_index starts (i + 1) - slice_index starts i) (drop (slice_index starts i) entries) k no_entry (omega (arith, length_row))
        ∙ get_or-drop (slice_index starts i) entries k no_entry
        ∙ sym (get_or-take (last_of h starts) entries (slice_index starts i + k) no_entry (omega (arith, place k l, ends)))

    -- inside a row no other row starts
    no_start : (k : ℕ) → slice_index starts i < k → k < slice_index starts (i + 1) → starts_at starts k ≢ true
    no_start k low high e =
        let w = (has_start_lem starts k).0 e in
        let j = w.0 in
        let at : get_or starts j 0 ≡ k = w.2 0 in
        let c = s.counted in
        let b : j < length starts = w.1 in
        ⊎_elim (λ (l : j < i + 1). omega (arith, mono h starts (length entries) s j i (omega arith) (omega arith)))
        (λ (l : i + 1 ≤ j). omega (arith, mono h starts (length entries) s (i + 1) j l (omega arith))) (cases_lt j (i + 1))

    row_rises : (k : ℕ) → suc k < length (sheet_row starts entries i) → job_at (sheet_row starts entries i) k < job_at (sheet_row starts entries i) (suc k)
    row_rises k l =
        let es = entries_in_rows h starts entries in
        let a = get_or starts i 0 in
        let here = ap (λ (e : Entry). e.job) (row_at k (omega arith)) in
        let there = ap (λ (e : Entry). e.job) (row_at (suc k) l) in
        let p = place (suc k) l in
        let g = good_at (slice_index starts i + suc k) (omega (arith, p, ends)) in
        let before : (slice_index starts i + suc k) - 1 ≡ slice_index starts i + k = omega arith in
        ⊎_elim (λ t. absurd (no_start (a + suc k) (omega arith) p t))
        (λ t. let u = rw before at (ltb-true (job_at es ((a + suc k) - 1)) (job_at es (a + suc k)) t) in omega (arith, here, there, u))
        (or_cases (starts_at starts (a + suc k)) (nat_lt (job_at es ((a + suc k) - 1)) (job_at es (a + suc k))) g.1)

    row_good : (k : ℕ) → k < length (sheet_row starts entries i) → (job_at (sheet_row starts entries i) k < h.jobs) × (1 ≤ worth_at (sheet_row starts entries i) k) × (worth_at (sheet_row starts entries i) k ≤ h.ceiling)
    row_good k l =
        let g = good_at (slice_index starts i + k) (omega (arith, place k l, ends)) in
        let job = ap (λ (e : Entry). e.job) (row_at k l) in
        let worth = ap (λ (e : Entry). e.worth) (row_at k l) in
        (omega (arith, g.0, job), omega (arith, g.2, worth), omega (arith, g.3, worth))

  -- what holds of the pair at each place of each row holds of every pair
  all_pairs : (P : ℕ × ℕ → Type 0) → ((i : ℕ) → i < h.carriers → (k : ℕ) → k < length (sheet_row starts entries i) → P (pair_of (slice_index_or (sheet_row starts entries i) k no_entry))) → AllByRecursion (AllByRecursion P) (sheet_of h starts entries).rows
  all_pairs P each =
      All-map (AllByRecursion P) (map pair_of) (sheet_rows h starts entries) (all_made (sheet_row starts entries) h.carriers (λ row. AllByRecursion P (map pair_of row))
      (λ i l. All-map P pair_of (sheet_row starts entries i) (All-from_get_or (λ e. P (pair_of e)) (sheet_row starts entries i) no_entry (each i l))))

  -- a sheet has no entry of worth 0
  pub sheet_nonzero : AllByRecursion (AllByRecursion (λ e. 1 ≤ e.1)) (sheet_of h starts entries).rows
  sheet_nonzero = all_pairs (λ e. 1 ≤ e.1) (λ i l k m. (row_good i l k m).1)

low_ceiling : (h : Heading) → (within_limits h || blank h) ≡ true → h.ceiling ≤ highest_worth
low_ceiling h e =
    ⊎_elim
    (λ t. let p = and_parts (nat_le 1 h.carriers && nat_le h.carriers most_carriers) ((nat_le 1 h.jobs && nat_le h.jobs most_jobs) && nat_le h.ceiling highest_ceiling) t in
    let q = and_parts (nat_le 1 h.jobs && nat_le h.jobs most_jobs) (nat_le h.ceiling highest_ceiling) p.1 in
    omega (arith, leb-true h.ceiling highest_ceiling q.1))
    (λ t. let p = and_parts (h.carriers == 0) (h.jobs == 0 && h.ceiling == 0) t in
    let q = and_parts (h.jobs == 0) (h.ceiling == 0) p.1 in
    omega (arith, eqb-true h.ceiling 0 q.1))
    (or_cases (within_limits h) (blank h) e)

pub sheet_sound : (h : Heading) (starts : List ℕ) (entries : List Entry) → (within_limits h || blank h) ≡ true → starts_good h starts (length entries) ≡ true → is_some (entry_refusal h starts (entries_in_rows h starts entries)) ≡ false → Sound (sheet_of h starts entries)
sheet_sound h starts entries limited good faultless =
    let s = started h starts (length entries) good in
    record {
      counted = length-map (sheet_rows h starts entries) (map pair_of) ∙ length-map-range_with_len (sheet_row starts entries) 0 h.carriers;
      rising = All-map (Rising 0) (map pair_of) (sheet_rows h starts entries) (all_made (sheet_row starts entries) h.carriers (λ row. Rising 0 (map pair_of row))
          (λ i l. rising_from 0 (sheet_row starts entries i) (λ _. omega arith) (row_rises h starts entries s faultless i l)));
      known = all_pairs h starts entries s faultless (λ e. e.0 < h.jobs) (λ i l k m. (row_good h starts entries s faultless i l k m).0);
      within = all_pairs h starts entries s faultless (λ e. e.1 ≤ h.ceiling) (λ i l k m. (row_good h starts entries s faultless i l k m).2);
      small = low_ceiling h limited;
    }
