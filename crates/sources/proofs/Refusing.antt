-- What the checks of a sheet come to, place by place.
use Rattle.std.proofs.Common.{◌≡◌, ℕ, zero, suc, ◌+◌, ◌-◌, ◌<◌, ◌≤◌, Bool, true, false, ◌&&◌, ◌||◌, eqb, ltb, leb, List, length, get_or, Some, None, Option, sym, refl, ap, ◌∙◌, subst, ⊎_elim, add-zero, zero-add, arith}
use Rattle.std.specs.Bool.{MatchBool}
use Rattle.std.specs.Option.{option_or}
use Rattle.std.specs.List.{IsAllAdjacentAnswer}
use Rattle.std.specs.List.Sorted.{IsNonDecreasing}
use Rattle.std.specs.Ordering.{is_le, is_some_and, nat_cmp}
use Rattle.std.proofs.lemmas.List.Sorted.{non_decreasing_from_is_sorted}
use Rattle.std.proofs.lemmas.List.{get_or_default}
use Rattle.std.proofs.lemmas.Bool.{both_ways, eq-eqb, ne_eqb, le-ltb, lt-ltb, or_left, or_right, cases_Bool, cases_eq, cases_lt}
use Rattle.std.proofs.Math.Bool.{or-false}
use Rattle.sources.specs.declared.records.Entry.{Entry}
use Rattle.sources.specs.declared.records.Heading.{Heading}
use Rattle.refusals.specs.declared.Refusal.{Refusal}
use Rattle.sources.specs.Sheets.{never_falls, last_of, starts_good, starts_at, job_at, in_order, first_refusal}
use Rattle.sources.specs.Laws.Starts.{never_falls_lem}
use Rattle.sources.specs.Laws.SheetSound.{has_start_lem}

-- ---- the row starts, gone through along with the entries

pub passed_more : (starts : List ℕ) (from next k : ℕ) → ((j : ℕ) → from ≤ j → j < next → get_or starts j 0 < k) → get_or starts next 0 < k → (j : ℕ) → from ≤ j → j < next + 1 → get_or starts j 0 < k
passed_more starts from next k before here j l m =
    ⊎_elim (λ (e : j < next). before j l e) (λ (e : next ≤ j). let q : j ≡ next = omega arith in rw q here) (cases_lt j next)

-- what is passed for one entry is passed for the next, too
pub passed_on : (starts : List ℕ) (from next k : ℕ) → ((j : ℕ) → j < from → get_or starts j 0 < k) → ((j : ℕ) → from ≤ j → j < next → get_or starts j 0 < k) → (j : ℕ) → j < next → get_or starts j 0 < k + 1
passed_on starts from next k before more j l =
    ⊎_elim (λ (e : j < from). omega (arith, before j e)) (λ (e : from ≤ j). omega (arith, more j e l)) (cases_lt j from)

module _ (starts : List ℕ) (rises : (i : ℕ) → i + 1 < length starts → get_or starts i 0 ≤ get_or starts (i + 1) 0) where
  rises_to : (i d : ℕ) → i + d < length starts → get_or starts i 0 ≤ get_or starts (i + d) 0
  rises_to i zero l = rw add-zero (omega arith)
  rises_to i (suc d) l =
      let e : (i + d) + 1 ≡ i + suc d = omega arith in
      let t : get_or starts (i + d) 0 ≤ get_or starts ((i + d) + 1) 0 = rises (i + d) (omega arith) in
      rw (← e) (omega (arith, rises_to i d (omega arith), t))

  -- the first start that is not below k is the only one that may be k
  no_start : (next k : ℕ) → ((j : ℕ) → j < next → get_or starts j 0 < k) → (next < length starts → k < get_or starts next 0) → starts_at starts k ≡ false
  no_start next k passed beyond =
      ⊎_elim
      (λ t.
      let w = (has_start_lem starts k).0 t in
      let here : get_or starts w.0 0 ≡ k = w.2 0 in
      absurd (⊎_elim (λ (e : w.0 < next). omega (arith, passed w.0 e))
      (λ (e : next ≤ w.0).
      let q : next + (w.0 - next) ≡ w.0 = omega arith in
      let r : get_or starts next 0 ≤ get_or starts w.0 0 = rw q at (rises_to next (w.0 - next) (omega arith)) in
      omega (arith, beyond (omega arith)))
      (cases_lt w.0 next)))
      (λ f. f)
      (cases_Bool (starts_at starts k))

  start_here : (next k : ℕ) → next < length starts → get_or starts next 0 ≡ k → starts_at starts k ≡ true
  start_here next k l e = (has_start_lem starts k).1 (next, l, λ d. get_or_default starts next d 0 l ∙ e)

  pub first_start : (next k : ℕ) → ((j : ℕ) → j < next → get_or starts j 0 < k) → k ≤ get_or starts next 0 → next < length starts → eqb (get_or starts next 0) k ≡ starts_at starts k
  first_start next k passed reached l =
      ⊎_elim
      (λ e. eq-eqb (get_or starts next 0) k e ∙ sym (start_here next k l e))
      (λ n. ne_eqb (get_or starts next 0) k n ∙ sym (no_start next k passed (λ _. omega arith)))
      (cases_eq (get_or starts next 0) k)

  pub past_starts : (next k : ℕ) → ((j : ℕ) → j < next → get_or starts j 0 < k) → length starts ≤ next → ltb next (length starts) ≡ starts_at starts k
  past_starts next k passed l = le-ltb next (length starts) l ∙ sym (no_start next k passed (λ m. absurd (omega arith)))

-- ---- the order of jobs

-- Jobs from a least one on are in order at k, and jobs below it are not above the one before.
pub record Least (starts : List ℕ) (es : List Entry) (k least : ℕ) : Type 0 where
  pub enough : (job : ℕ) → least ≤ job → (starts_at starts k || ltb (job_at es (k - 1)) job) ≡ true
  pub needed : (job : ℕ) → job < least → ltb (job_at es (k - 1)) job ≡ false

pub least_first : (starts : List ℕ) (es : List Entry) → starts_at starts 0 ≡ true → Least starts es 0 0
least_first starts es begins = record {
  enough = λ job l. or_left (starts_at starts 0) (ltb (job_at es (0 - 1)) job) begins;
  needed = λ job l. absurd (omega arith);
}

pub least_next : (starts : List ℕ) (es : List Entry) (k : ℕ) → Least starts es (k + 1) (job_at es k + 1)
least_next starts es k =
    let e : k + 1 - 1 ≡ k = omega arith in
    record {
      enough = λ job l. or_right (starts_at starts (k + 1)) (ltb (job_at es (k + 1 - 1)) job) (rw e (lt-ltb (job_at es k) job (omega arith)));
      needed = λ job l. rw e (le-ltb (job_at es k) job (omega arith));
    }

pub ordered_as : (starts : List ℕ) (es : List Entry) (k least : ℕ) (r : Bool) → Least starts es k least → job_at es k < least → r ≡ starts_at starts k → r ≡ in_order starts es k
ordered_as starts es k least r lst l e = e ∙ sym (ap (λ b. starts_at starts k || b) (lst.needed (job_at es k) l) ∙ or-false (starts_at starts k))

falls : (starts : List ℕ) (n i : ℕ) → i < n → get_or starts (i + 1) 0 < get_or starts i 0 → never_falls starts n ≡ false
falls starts n i l below =
    ⊎_elim (λ e. absurd (omega (arith, (never_falls_lem starts n).0 e i l))) (λ e. e) (cases_Bool (never_falls starts n))

bad_starts : (a b c : Bool) → b ≡ false → false ≡ (a && (b && c))
bad_starts true b c e = sym (ap (λ x. x && c) e)
bad_starts false b c e = refl

pub starts_fall : (h : Heading) (starts : List ℕ) (count i : ℕ) → i < h.carriers → get_or starts (i + 1) 0 < get_or starts i 0 → false ≡ starts_good h starts count
starts_fall h starts count i l below =
    bad_starts (eqb (length starts) (h.carriers + 1) && eqb (get_or starts 0 0) 0) (never_falls starts h.carriers) (leb (last_of h starts) count) (falls starts h.carriers i l below)

all_but : (a b c d : Bool) → a ≡ true → b ≡ true → c ≡ true → d ≡ ((a && b) && (c && d))
all_but a b c d p q r = simp (p, q, r)

pub starts_rise : (h : Heading) (starts : List ℕ) (count : ℕ) → length starts ≡ h.carriers + 1 → get_or starts 0 0 ≡ 0 → ((k : ℕ) → k < h.carriers → get_or starts k 0 ≤ get_or starts (k + 1) 0) → leb (last_of h starts) count ≡ starts_good h starts count
starts_rise h starts count long first rises =
    all_but (eqb (length starts) (h.carriers + 1)) (eqb (get_or starts 0 0) 0) (never_falls starts h.carriers) (leb (last_of h starts) count)
    (eq-eqb _ _ long) (eq-eqb _ _ first) ((never_falls_lem starts h.carriers).1 rises)

-- the same, from what the library's test for order answered
abbrev pub IsOrderAnswer : List ℕ → Bool → Type 0
IsOrderAnswer starts r = IsAllAdjacentAnswer (λ x y b. is_some_and is_le (Some (nat_cmp x y)) ≡ b) starts r

module _ (h : Heading) (starts : List ℕ) (count : ℕ) (long : length starts ≡ h.carriers + 1) where
  in_order_is : (r : Bool) → MatchBool r (IsNonDecreasing starts) ((k : ℕ) × (k + 1 < length starts) × ((d : ℕ) → get_or starts (k + 1) d < get_or starts k d)) → r ≡ true → get_or starts 0 0 ≡ 0 → leb (last_of h starts) count ≡ starts_good h starts count
  in_order_is true sorted is first = starts_rise h starts count long first (λ k l. sorted k (k + 1) 0 (omega arith) (omega arith))
  in_order_is false sorted is first = absurd (both_ways false refl is)

  not_in_order : (r : Bool) → MatchBool r (IsNonDecreasing starts) ((k : ℕ) × (k + 1 < length starts) × ((d : ℕ) → get_or starts (k + 1) d < get_or starts k d)) → r ≡ false → r ≡ starts_good h starts count
  not_in_order true sorted is = absurd (both_ways true is refl)
  not_in_order false sorted is = starts_fall h starts count sorted.0 (omega (arith, sorted.1)) (sorted.2 0)

  pub starts_in_order : (r : Bool) → IsOrderAnswer starts r → r ≡ true → get_or starts 0 0 ≡ 0 → leb (last_of h starts) count ≡ starts_good h starts count
  starts_in_order r answer = in_order_is r (non_decreasing_from_is_sorted starts r answer)

  pub starts_not_in_order : (r : Bool) → IsOrderAnswer starts r → r ≡ false → r ≡ starts_good h starts count
  starts_not_in_order r answer = not_in_order r (non_decreasing_from_is_sorted starts r answer)

first_from : (f : ℕ → Option Refusal) (a n d : ℕ) (r : Refusal) → ((j : ℕ) → j < d → f (a + j) ≡ None) → d < n → f (a + d) ≡ Some r → first_refusal f a n ≡ Some r
first_from f a zero d r before l e = absurd (omega arith)
first_from f a (suc n) zero r before l e = ap (λ o. option_or o (first_refusal f (a + 1) n)) (rw add-zero at e)
first_from f a (suc n) (suc d) r before l e =
    ap (λ o. option_or o (first_refusal f (a + 1) n)) (rw add-zero at (before 0 (omega arith)))
    ∙ first_from f (a + 1) n d r
    (λ j m. let q : (a + 1) + j ≡ a + suc j = omega arith in subst (λ x. f x ≡ None) (sym q) (before (suc j) (omega arith)))
    (omega arith)
    (let q : (a + 1) + d ≡ a + suc d = omega arith in subst (λ x. f x ≡ Some r) (sym q) e)

pub refused_first : (f : ℕ → Option Refusal) (n k : ℕ) (r : Refusal) → ((j : ℕ) → j < k → f j ≡ None) → k < n → f k ≡ Some r → Some r ≡ first_refusal f 0 n
refused_first f n k r before l e = sym (first_from f 0 n k r (λ j m. rw zero-add (before j m)) l (rw zero-add e))

none_from : (f : ℕ → Option Refusal) (a n : ℕ) → ((j : ℕ) → j < n → f (a + j) ≡ None) → first_refusal f a n ≡ None
none_from f a zero all = refl
none_from f a (suc n) all =
    ap (λ o. option_or o (first_refusal f (a + 1) n)) (rw add-zero at (all 0 (omega arith)))
    ∙ none_from f (a + 1) n (λ j m. let q : (a + 1) + j ≡ a + suc j = omega arith in subst (λ x. f x ≡ None) (sym q) (all (suc j) (omega arith)))

pub refused_nowhere : (f : ℕ → Option Refusal) (n k : ℕ) → ((j : ℕ) → j < k → f j ≡ None) → n ≤ k → None ≡ first_refusal f 0 n
refused_nowhere f n k all l = sym (none_from f 0 n (λ j m. rw zero-add (all j (omega arith))))
