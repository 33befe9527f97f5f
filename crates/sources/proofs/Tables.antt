-- Filling accepts exactly the tables of a sound meaning within the limits.
use Rattle.std.proofs.Common.{◌≡◌, ℕ, zero, suc, ◌+◌, ◌-◌, ◌<◌, ◌≤◌, Bool, true, false, cond, ◌&&◌, eqb, ltb, leb, ◌⊎◌, List, [], ◌∷◌, ◌++◌, map, length, get_or, take, drop, is_some, is_ok, Some, None, Ok, Option, Result, sym, refl, ap, ◌∙◌, subst, inl, inr, ⊎_elim, add-one, arith, take-add}
use mathlib.Core.List.{map-map}
use native.Mathlib.Nat.{sub_self}
use Rattle.std.specs.List.{range_with_len, AllByRecursion}
use Rattle.std.proofs.lemmas.List.{append_assoc, drop_all, drop_at, drop-drop, drop_more, get_or-append-add, get_or_append_left, get_or-map, length-append, length-map, map-id, take-append-drop, take_at}
use Rattle.std.proofs.lemmas.List.FromFn.{fill_by_all}
use Rattle.std.proofs.ByRecursion.{All-append, All-get_or}
use Rattle.std.proofs.lemmas.Bool.{false≢true, cases_lt, cases_eq, cond-true, eq-eqb, lt-ltb, le-leb, and_from, or_left, or_right}
use Rattle.refusals.specs.declared.Refusal.{Refusal}
use Rattle.refusals.specs.declared.Refusal.TheVariants.{CountsOutside, JobOutOfOrder, WorthOutside, StartsUnfit}
use Rattle.sources.specs.declared.records.Entry.{Entry}
use Rattle.sources.specs.declared.records.Heading.{Heading}
use Rattle.sources.specs.Meaning.{Meaning, Rising}
use Rattle.sources.specs.Sheets.{within_limits, blank, starts_good, last_of, starts_at, no_entry, job_at, worth_at, in_order, refusal_at, entries_in_rows, entry_refusal, unless, or_refused, fill_verdict, pair_of, sheet_row, sheet_of}
use Rattle.sources.specs.Tables.{heading_of, entry_of, ends_of, starts_of, entries_of, TablesOf, Fillable, FillsExactly}
use Rattle.sources.specs.Laws.Starts.{Started, started, mono}
use Rattle.sources.specs.Laws.SheetSound.{length_row, sheet_nonzero, sheet_sound}
use Rattle.sources.proofs.Reading.{rising_apart}
use Rattle.sources.proofs.Refusing.{starts_rise, refused_nowhere}

-- ---- where rows start and end

pub length_ends : (u : ℕ) (rows : List (List (ℕ × ℕ))) → length (ends_of u rows) ≡ length rows
length_ends u [] = refl
length_ends u (row ∷ rows) = ap suc (length_ends (u + length row) rows)

ends_rise : (u : ℕ) (rows : List (List (ℕ × ℕ))) (i : ℕ) → i < length rows → get_or (u ∷ ends_of u rows) i 0 ≤ get_or (u ∷ ends_of u rows) (suc i) 0
ends_rise u [] i l = absurd (omega arith)
ends_rise u (row ∷ rows) zero l = omega arith
ends_rise u (row ∷ rows) (suc i) l = ends_rise (u + length row) rows i (omega arith)

ends_last : (u : ℕ) (rows : List (List (ℕ × ℕ))) → get_or (u ∷ ends_of u rows) (length rows) 0 ≡ u + length (entries_of rows)
ends_last u [] = omega arith
ends_last u (row ∷ rows) =
    let i = ends_last (u + length row) rows in
    omega (arith, length-append (map entry_of row) (entries_of rows), length-map row entry_of)

-- ---- each entry by itself, and one after another

abbrev Fine : Meaning → Entry → Type 0
Fine m e = (e.job < m.jobs) × (1 ≤ e.worth) × (e.worth ≤ m.ceiling)

row_fine : (m : Meaning) (row : List (ℕ × ℕ)) → AllByRecursion (λ e. e.0 < m.jobs) row → AllByRecursion (λ e. 1 ≤ e.1) row → AllByRecursion (λ e. e.1 ≤ m.ceiling) row → AllByRecursion (Fine m) (map entry_of row)
row_fine m [] a b c = tt
row_fine m (e ∷ es) a b c = ((a.0, b.0, c.0), row_fine m es a.1 b.1 c.1)

rows_fine : (m : Meaning) (rows : List (List (ℕ × ℕ))) → AllByRecursion (AllByRecursion (λ e. e.0 < m.jobs)) rows → AllByRecursion (AllByRecursion (λ e. 1 ≤ e.1)) rows → AllByRecursion (AllByRecursion (λ e. e.1 ≤ m.ceiling)) rows → AllByRecursion (Fine m) (entries_of rows)
rows_fine m [] a b c = tt
rows_fine m (row ∷ rows) a b c = All-append (Fine m) (map entry_of row) (entries_of rows) (row_fine m row a.0 b.0 c.0) (rows_fine m rows a.1 b.1 c.1)

job_at_lem : (pre : List Entry) (row : List (ℕ × ℕ)) (tail : List Entry) (j : ℕ) → j < length row → job_at (pre ++ (map entry_of row ++ tail)) (length pre + j) ≡ (get_or row j (0, 0)).0
job_at_lem pre row tail j l =
    let n = length-map row entry_of in
    ap (λ (e : Entry). e.job) (get_or-append-add pre (map entry_of row ++ tail) j no_entry ∙ get_or_append_left (map entry_of row) tail no_entry j (omega arith) ∙ get_or-map entry_of row j (0, 0) no_entry l)

in_order_lem : (rows : List (List (ℕ × ℕ))) → AllByRecursion (Rising 0) rows → (pre : List Entry) (u k : ℕ) → length pre ≡ u → u ≤ k → k < u + length (entries_of rows)
    → (starts_at (u ∷ ends_of u rows) k ≡ true) ⊎ (job_at (pre ++ entries_of rows) (k - 1) < job_at (pre ++ entries_of rows) k)
in_order_lem [] r pre u k long low high = absurd (omega arith)
in_order_lem (row ∷ rows) r pre u k long low high =
    let n' = length-map row entry_of in
    ⊎_elim
    (λ here.
    ⊎_elim
    (λ same. inl (or_left (eqb u k) (starts_at (ends_of u (row ∷ rows)) k) (eq-eqb u k (sym same))))
    (λ other.
    let a : k - 1 ≡ length pre + (k - u - 1) = omega arith in
    let b : k ≡ length pre + suc (k - u - 1) = omega arith in
    let p = ap (job_at (pre ++ (map entry_of row ++ entries_of rows))) a ∙ job_at_lem pre row (entries_of rows) (k - u - 1) (omega arith) in
    let q = ap (job_at (pre ++ (map entry_of row ++ entries_of rows))) b ∙ job_at_lem pre row (entries_of rows) (suc (k - u - 1)) (omega arith) in
    inr (omega (arith, p, q, rising_apart 0 row r.0 (k - u - 1) (suc (k - u - 1)) (omega arith) (omega arith))))
    (cases_eq k u))
    (λ there.
    let n = length-append pre (map entry_of row) in
    let n'' = length-append (map entry_of row) (entries_of rows) in
    ⊎_elim
    (λ t. inl (or_right (eqb u k) (starts_at (ends_of u (row ∷ rows)) k) t))
    (λ t. inr (subst (λ (l : List Entry). job_at l (k - 1) < job_at l k) (append_assoc pre (map entry_of row) (entries_of rows)) t))
    (in_order_lem rows r.1 (pre ++ map entry_of row) (u + length row) k (omega arith) there (omega arith)))
    (cases_lt k (u + length row))

-- ---- the tables of a fillable meaning are accepted

module _ (m : Meaning) (good : Fillable m) (rest : List Entry) where
  last_is : last_of (heading_of m) (starts_of m.rows) ≡ length (entries_of m.rows)
  last_is = ap (λ n. get_or (starts_of m.rows) n 0) (sym good.sound.counted) ∙ ends_last 0 m.rows ∙ (let z : 0 + length (entries_of m.rows) ≡ length (entries_of m.rows) = omega arith in z)

  listed_is : entries_in_rows (heading_of m) (starts_of m.rows) (entries_of m.rows ++ rest) ≡ entries_of m.rows
  listed_is = take_at (entries_of m.rows) rest (last_of (heading_of m) (starts_of m.rows)) (sym last_is)

  starts_good_lem : starts_good (heading_of m) (starts_of m.rows) (length (entries_of m.rows ++ rest)) ≡ true
  starts_good_lem =
      let counted = good.sound.counted in
      sym (starts_rise (heading_of m) (starts_of m.rows) (length (entries_of m.rows ++ rest)) (omega (arith, length_ends 0 m.rows)) refl
      (λ k l. subst (λ n. get_or (starts_of m.rows) k 0 ≤ get_or (starts_of m.rows) n 0) (sym (add-one k)) (ends_rise 0 m.rows k (omega arith))))
      ∙ le-leb (last_of (heading_of m) (starts_of m.rows)) (length (entries_of m.rows ++ rest)) (omega (arith, last_is, length-append (entries_of m.rows) rest))

  none_at : (k : ℕ) → k < length (entries_of m.rows) → refusal_at (heading_of m) (starts_of m.rows) (entries_of m.rows) k ≡ None
  none_at k l =
      let es = entries_of m.rows in
      let f = All-get_or (Fine m) (entries_of m.rows) k no_entry l (rows_fine m m.rows good.sound.known good.nonzero good.sound.within) in
      let o : in_order (starts_of m.rows) (entries_of m.rows) k ≡ true =
      ⊎_elim (λ t. or_left (starts_at (starts_of m.rows) k) (ltb (job_at es (k - 1)) (job_at es k)) t)
      (λ t. or_right (starts_at (starts_of m.rows) k) (ltb (job_at es (k - 1)) (job_at es k)) (lt-ltb (job_at es (k - 1)) (job_at es k) t))
      (in_order_lem m.rows good.sound.rising [] 0 k refl (omega arith) (omega arith)) in
      cond-true (ltb (job_at es k) m.jobs && in_order (starts_of m.rows) es k) (cond (leb 1 (worth_at es k) && leb (worth_at es k) m.ceiling) None (Some WorthOutside)) (Some JobOutOfOrder)
      (and_from (ltb (job_at es k) m.jobs) (in_order (starts_of m.rows) es k) (lt-ltb (job_at es k) m.jobs f.0) o)
      ∙ cond-true (leb 1 (worth_at es k) && leb (worth_at es k) m.ceiling) None (Some WorthOutside)
      (and_from (leb 1 (worth_at es k)) (leb (worth_at es k) m.ceiling) (le-leb 1 (worth_at es k) f.1) (le-leb (worth_at es k) m.ceiling f.2))

  pub fills : fill_verdict (heading_of m) (starts_of m.rows) (entries_of m.rows ++ rest) ≡ Ok tt
  fills =
      let h = heading_of m in
      let ss = starts_of m.rows in
      let es = entries_of m.rows ++ rest in
      ap or_refused (cond-true (within_limits h) (unless (starts_good h ss (length es)) StartsUnfit (entry_refusal h ss (entries_in_rows h ss es))) (Some CountsOutside) good.limited
      ∙ cond-true (starts_good h ss (length es)) (entry_refusal h ss (entries_in_rows h ss es)) (Some StartsUnfit) starts_good_lem
      ∙ ap (entry_refusal h ss) listed_is ∙ sym (refused_nowhere (refusal_at h ss (entries_of m.rows)) (length (entries_of m.rows)) (length (entries_of m.rows)) none_at (omega arith)))

-- ---- and they mean that meaning

row_is : (rows : List (List (ℕ × ℕ))) (rest pre : List Entry) (u i : ℕ) → length pre ≡ u → i < length rows → sheet_row (u ∷ ends_of u rows) (pre ++ (entries_of rows ++ rest)) i ≡ map entry_of (get_or rows i [])
row_is [] rest pre u i long l = absurd (omega arith)
row_is (row ∷ rows) rest pre u zero long l =
    let n : u + length row - u ≡ length row = omega arith in
    ap (λ m. take m (drop u (pre ++ ((map entry_of row ++ entries_of rows) ++ rest)))) n
    ∙ ap (take (length row)) (drop_at pre ((map entry_of row ++ entries_of rows) ++ rest) u long ∙ append_assoc (map entry_of row) (entries_of rows) rest)
    ∙ take_at (map entry_of row) (entries_of rows ++ rest) (length row) (length-map row entry_of)
row_is (row ∷ rows) rest pre u (suc i) long l =
    let n = length-append pre (map entry_of row) in let n' = length-map row entry_of in
    let e : suc i + 1 ≡ suc (i + 1) = omega arith in
    let same : (pre ++ map entry_of row) ++ (entries_of rows ++ rest) ≡ pre ++ ((map entry_of row ++ entries_of rows) ++ rest) =
    append_assoc pre (map entry_of row) (entries_of rows ++ rest) ∙ ap (λ z. pre ++ z) (sym (append_assoc (map entry_of row) (entries_of rows) rest)) in
    ap (λ m. take (get_or (u ∷ ends_of u (row ∷ rows)) m 0 - get_or (u ∷ ends_of u (row ∷ rows)) (suc i) 0) (drop (get_or (u ∷ ends_of u (row ∷ rows)) (suc i) 0) (pre ++ ((map entry_of row ++ entries_of rows) ++ rest)))) e
    ∙ ap (λ z. sheet_row ((u + length row) ∷ ends_of (u + length row) rows) z i) (sym same)
    ∙ row_is rows rest (pre ++ map entry_of row) (u + length row) i (omega arith) (omega arith)

rows_back : (rows : List (List (ℕ × ℕ))) → map (map pair_of) (map (map entry_of) rows) ≡ rows
rows_back [] = refl
rows_back (row ∷ rows) = ap (λ r. r ∷ map (map pair_of) (map (map entry_of) rows)) (map-map pair_of entry_of row ∙ map-id row) ∙ ap (λ l. row ∷ l) (rows_back rows)

with_rows : Meaning → List (List (ℕ × ℕ)) → Meaning
with_rows m rows = record { carriers = m.carriers; jobs = m.jobs; ceiling = m.ceiling; rows = rows }

pub means : (m : Meaning) (rest : List Entry) → length m.rows ≡ m.carriers → sheet_of (heading_of m) (starts_of m.rows) (entries_of m.rows ++ rest) ≡ m
unfolding with_rows
means m rest counted =
    let rows = m.rows in
    ap (with_rows m)
    (ap (map (map pair_of)) (sym (fill_by_all (sheet_row (starts_of rows) (entries_of rows ++ rest)) (map (map entry_of) rows) m.carriers [] (length-map rows (map entry_of) ∙ counted)
    (λ i l. get_or-map (map entry_of) rows i [] [] (omega (arith, counted)) ∙ sym (row_is rows rest [] 0 i refl (omega (arith, counted))))))
    ∙ rows_back rows)

-- ---- what is accepted is such tables

module _ (h : Heading) (starts : List ℕ) (entries : List Entry) (s : Started h starts (length entries)) (faultless : is_some (entry_refusal h starts (entries_in_rows h starts entries)) ≡ false) where
  -- the rows from the i-th on
  abbrev from : ℕ → ℕ → List (List (ℕ × ℕ))
  from i n = map (map pair_of) (map (sheet_row starts entries) (range_with_len i n))

  row_ends : (i : ℕ) → i < h.carriers → get_or starts i 0 + length (map pair_of (sheet_row starts entries i)) ≡ get_or starts (i + 1) 0
  row_ends i l = omega (arith, length-map (sheet_row starts entries i) pair_of, length_row h starts entries s faultless i l, s.rises i l)

  starts_from : (i n : ℕ) → i + n ≡ h.carriers → get_or starts i 0 ∷ ends_of (get_or starts i 0) (from i n) ≡ drop i starts
  starts_from i zero e =
      let c = s.counted in
      ap (λ l. get_or starts i 0 ∷ l) (sym (drop_all (i + 1) starts (omega arith))) ∙ sym (drop_more starts i 0 (omega arith))
  starts_from i (suc n) e =
      let c = s.counted in
      ap (λ u. get_or starts i 0 ∷ (u ∷ ends_of u (from (i + 1) n))) (row_ends i (omega arith))
      ∙ ap (λ l. get_or starts i 0 ∷ l) (starts_from (i + 1) n (omega arith)) ∙ sym (drop_more starts i 0 (omega arith))

  entries_from : (i n : ℕ) → i + n ≡ h.carriers → entries_of (from i n) ≡ take (last_of h starts - get_or starts i 0) (drop (get_or starts i 0) entries)
  entries_from i zero e =
      let j : h.carriers ≡ i = omega arith in
      sym (ap (λ n. take n (drop (get_or starts i 0) entries)) (ap (λ k. get_or starts k 0 - get_or starts i 0) j ∙ sub_self (get_or starts i 0)))
  entries_from i (suc n) e =
      let a = get_or starts i 0 in
      let b = get_or starts (i + 1) 0 in
      let up = s.rises i (omega arith) in
      let end = mono h starts (length entries) s (i + 1) h.carriers (omega arith) (omega arith) in
      let next : get_or starts i 0 + (get_or starts (i + 1) 0 - get_or starts i 0) ≡ get_or starts (i + 1) 0 = omega arith in
      let whole : (get_or starts (i + 1) 0 - get_or starts i 0) + (last_of h starts - get_or starts (i + 1) 0) ≡ last_of h starts - get_or starts i 0 = omega arith in
      ap (λ l. l ++ entries_of (from (i + 1) n)) (map-map entry_of pair_of (sheet_row starts entries i) ∙ map-id (sheet_row starts entries i))
      ∙ ap (λ l. sheet_row starts entries i ++ l) (entries_from (i + 1) n (omega arith)
      ∙ ap (take (last_of h starts - b)) (ap (λ k. drop k entries) (sym next) ∙ sym (drop-drop (b - a) a entries)))
      ∙ sym (take-add (b - a) (last_of h starts - b) (drop a entries))
      ∙ ap (λ k. take k (drop a entries)) whole

  pub tables_of : TablesOf (sheet_of h starts entries) h starts entries
  tables_of =
      let all : 0 + h.carriers ≡ h.carriers = omega arith in
      let last : last_of h starts - 0 ≡ last_of h starts = omega arith in
      record {
        numbers = refl;
        starting = sym (starts_from 0 h.carriers all) ∙ ap (λ u. u ∷ ends_of u (from 0 h.carriers)) s.begins;
        listing = (
          drop (last_of h starts) entries,
          sym (ap (λ l. l ++ drop (last_of h starts) entries) (entries_from 0 h.carriers all ∙ ap (λ u. take (last_of h starts - u) (drop u entries)) s.begins ∙ ap (λ n. take n entries) last)
              ∙ take-append-drop (last_of h starts) entries),
        );
      }

-- ---- both directions

ok_parts : (a b : Bool) (o : Option Refusal) → is_ok (or_refused (unless a CountsOutside (unless b StartsUnfit o))) ≡ true → (a ≡ true) × (b ≡ true) × (is_some o ≡ false)
ok_parts true true None e = (refl, refl, refl)
ok_parts true true (Some r) e = absurd (false≢true e)
ok_parts true false o e = absurd (false≢true e)
ok_parts false b o e = absurd (false≢true e)

module _ (h : Heading) (starts : List ℕ) (entries : List Entry) where
  only : is_ok (fill_verdict h starts entries) ≡ true → Fillable (sheet_of h starts entries) × TablesOf (sheet_of h starts entries) h starts entries
  only ok =
      let p = ok_parts (within_limits h) (starts_good h starts (length entries)) (entry_refusal h starts (entries_in_rows h starts entries)) ok in
      let s = started h starts (length entries) p.1 in (
        record { sound = sheet_sound h starts entries (or_left (within_limits h) (blank h) p.0) p.1 p.2; limited = p.0; nonzero = sheet_nonzero h starts entries s p.2 },
        tables_of h starts entries s p.2,
      )

  every : (m : Meaning) → Fillable m → TablesOf m h starts entries → (fill_verdict h starts entries ≡ Ok tt) × (sheet_of h starts entries ≡ m)
  every m good t =
      let rest = t.listing.0 in
      let es = t.listing.1 in (
        ap (λ x. fill_verdict x starts entries) t.numbers ∙ ap (λ x. fill_verdict (heading_of m) x entries) t.starting ∙ ap (fill_verdict (heading_of m) (starts_of m.rows)) es ∙ fills m good rest,
        ap (λ x. sheet_of x starts entries) t.numbers ∙ ap (λ x. sheet_of (heading_of m) x entries) t.starting ∙ ap (sheet_of (heading_of m) (starts_of m.rows)) es ∙ means m rest good.sound.counted,
      )

  pub fills_exactly : (r : Result (Unit {0}) Refusal) (after before : Meaning) → r ≡ fill_verdict h starts entries → after ≡ cond (is_ok r) (sheet_of h starts entries) before → FillsExactly h starts entries r after
  fills_exactly r after before is then =
      let now : is_ok r ≡ true → after ≡ sheet_of h starts entries = λ ok. then ∙ cond-true (is_ok r) (sheet_of h starts entries) before ok in
      record {
        only = λ ok. subst (λ m. Fillable m × TablesOf m h starts entries) (sym (now ok)) (only (sym (ap is_ok is) ∙ ok));
        every = λ m good t. let e = every m good t in (is ∙ e.0, now (ap is_ok (is ∙ e.0)) ∙ e.1);
      }
