-- What is read is a sheet file, and each sheet file is read.
use Rattle.std.proofs.Common.{◌≡◌, ℕ, zero, suc, ◌+◌, ◌-◌, ◌*◌, ◌^◌, ◌<◌, ◌≤◌, Bool, true, cond, ◌&&◌, eqb, ltb, leb, List, [], ◌∷◌, ◌++◌, length, get_or, drop, Ok, Err, sym, refl, ap, ◌∙◌, subst, arith, w8, Fits}
use Rattle.std.proofs.lemmas.List.{append_assoc, append-nil, drop_all, drop_at, drop-drop, length-drop}
use Rattle.std.proofs.lemmas.Result.{IfOk-at_ok}
use Rattle.std.proofs.lemmas.Bool.{eq-eqb, eqb-true, le-leb, leb-true}
use Rattle.std.specs.List.{flat_map, AllByRecursion}
use Rattle.refusals.specs.Faults.{fault_at, fault_of}
use Rattle.refusals.specs.declared.Fault.{Fault}
use Rattle.refusals.specs.declared.Refusal.TheVariants.{BytesFollow, CountsOutside, JobOutOfOrder, TooShort, TotalDiffers, WorthOutside}
use Rattle.numbers.proofs.Exact.{exactly, reads}
use Rattle.numbers.specs.Groups.{encoded}
use Rattle.numbers.specs.Laws.{Begins}
use Rattle.numbers.specs.Reading.{read_at}
use Rattle.sources.specs.Meaning.{Meaning}
use Rattle.sources.specs.Tables.{heading_of}
use Rattle.sources.specs.declared.records.Heading.{Heading}
use Rattle.sheetfile.specs.Layout.{LongEnough, Row, SheetFile, entries_in, entry_bytes, heading_bytes, meaning_of, row_bytes}
use Rattle.sheetfile.specs.Reading.{closed_at, count_from, entries_from, entry_from, heading_from, heading_in, job_from, loaded, number_from, row_from, row_in, rows_from, worth_from}
use Rattle.sheetfile.specs.Steps.{and_then, prefixed, room_for}
use Rattle.sheetfile.proofs.Bounds.{EntryIn, HeadingIn, RowIn, bounded, fillable}
use Rattle.sheetfile.proofs.Loading.{file}
use Rattle.sheetfile.proofs.Steps.{below, between, followed, follows, from_below, from-between, fronts, ok_same, room_there, roomy, tested, tests}

-- one part after another
pub chained : (a b c d e : List ℕ) → a ≡ b ++ c → c ≡ d ++ e → a ≡ (b ++ d) ++ e
chained a b c d e p q = p ∙ ap (λ z. b ++ z) q ∙ sym (append_assoc b d e)

module _ (bs : List ℕ) (typed : (i : ℕ) → Fits w8 (get_or bs i 0)) where
  number_read : (at : ℕ) (x : ℕ × ℕ) → read_at bs at ≡ Ok x → (drop at bs ≡ encoded x.0 ++ drop x.1 bs) × (x.0 < 2 ^ 42)
  number_read at x is =
      let b = IfOk-at_ok (λ (p : ℕ × ℕ). Begins bs at p.0 p.1) is (exactly bs at (read_at bs at) typed refl).one_form in
      (b.bytes_are, b.small)

  passed_read : (test : ℕ → Bool) (e : Fault) (at : ℕ) (x : ℕ × ℕ) → number_from bs test e at ≡ Ok x → (drop at bs ≡ encoded x.0 ++ drop x.1 bs) × (test x.0 ≡ true)
  passed_read test e at x is =
      let f = followed (read_at bs at) (λ n. cond (test n.0) (Ok n) (Err e)) x is in
      let t = tested (test f.0.0) (Ok f.0) e x f.2 in
      subst (λ (y : ℕ × ℕ). (drop at bs ≡ encoded y.0 ++ drop y.1 bs) × (test y.0 ≡ true)) (ok_same f.0 x t.1) ((number_read at f.0 f.1).0, t.0)

  count_read : (low high at : ℕ) (x : ℕ × ℕ) → count_from bs low high at ≡ Ok x → (drop at bs ≡ encoded x.0 ++ drop x.1 bs) × (low ≤ x.0) × (x.0 ≤ high)
  count_read low high at x is = let p = passed_read (λ n. leb low n && leb n high) (fault_of CountsOutside) at x is in let b = between low x.0 high p.1 in (p.0, b.0, b.1)

  pub heading_read : (at : ℕ) (x : Heading × ℕ) → heading_from bs at ≡ Ok x → (drop at bs ≡ heading_bytes x.0 ++ drop x.1 bs) × HeadingIn x.0
  heading_read at x is =
      let f = followed (count_from bs 1 128 at) (λ c. and_then (count_from bs 1 256 c.1) (λ j. and_then (count_from bs 0 (2 ^ 36) j.1) (λ w. Ok (record { carriers = c.0; jobs = j.0; ceiling = w.0 }, w.1)))) x is in
      let g = followed (count_from bs 1 256 f.0.1) (λ j. and_then (count_from bs 0 (2 ^ 36) j.1) (λ w. Ok (record { carriers = f.0.0; jobs = j.0; ceiling = w.0 }, w.1))) x f.2 in
      let k = followed (count_from bs 0 (2 ^ 36) g.0.1) (λ w. Ok (record { carriers = f.0.0; jobs = g.0.0; ceiling = w.0 }, w.1)) x g.2 in
      let a = count_read 1 128 at f.0 f.1 in
      let b = count_read 1 256 f.0.1 g.0 g.1 in
      let c = count_read 0 (2 ^ 36) g.0.1 k.0 k.1 in
      subst (λ (y : Heading × ℕ). (drop at bs ≡ heading_bytes y.0 ++ drop y.1 bs) × HeadingIn y.0) (ok_same (record { carriers = f.0.0; jobs = g.0.0; ceiling = k.0.0 }, k.0.1) x k.2) (
        chained (drop at bs) (encoded f.0.0) (drop f.0.1 bs) (encoded g.0.0 ++ encoded k.0.0) (drop k.0.1 bs) a.0
            (chained (drop f.0.1 bs) (encoded g.0.0) (drop g.0.1 bs) (encoded k.0.0) (drop k.0.1 bs) b.0 c.0),
        record { carriers_low = a.1; carriers_high = a.2; jobs_low = b.1; jobs_high = b.2; ceiling_high = c.2 },
      )

  job_read : (h : Heading) (low at : ℕ) (x : ℕ × ℕ) → job_from bs h low at ≡ Ok x → (drop at bs ≡ encoded x.0 ++ drop x.1 bs) × (low ≤ x.0) × (x.0 < h.jobs)
  job_read h low at x is = let p = passed_read (λ n. leb low n && ltb n h.jobs) (fault_at JobOutOfOrder at) at x is in let b = below low x.0 h.jobs p.1 in (p.0, b.0, b.1)

  worth_read : (h : Heading) (at : ℕ) (x : ℕ × ℕ) → worth_from bs h at ≡ Ok x → (drop at bs ≡ encoded x.0 ++ drop x.1 bs) × (1 ≤ x.0) × (x.0 ≤ h.ceiling)
  worth_read h at x is = let p = passed_read (λ n. leb 1 n && leb n h.ceiling) (fault_at WorthOutside at) at x is in let b = between 1 x.0 h.ceiling p.1 in (p.0, b.0, b.1)

  entry_read : (h : Heading) (low at : ℕ) (x : (ℕ × ℕ) × ℕ) → entry_from bs h low at ≡ Ok x → (drop at bs ≡ entry_bytes x.0 ++ drop x.1 bs) × EntryIn h low x.0
  entry_read h low at x is =
      let f = followed (job_from bs h low at) (λ j. and_then (worth_from bs h j.1) (λ w. Ok ((j.0, w.0), w.1))) x is in
      let g = followed (worth_from bs h f.0.1) (λ w. Ok ((f.0.0, w.0), w.1)) x f.2 in
      let a = job_read h low at f.0 f.1 in
      let b = worth_read h f.0.1 g.0 g.1 in
      subst (λ (y : (ℕ × ℕ) × ℕ). (drop at bs ≡ entry_bytes y.0 ++ drop y.1 bs) × EntryIn h low y.0) (ok_same ((f.0.0, g.0.0), g.0.1) x g.2) (
        chained (drop at bs) (encoded f.0.0) (drop f.0.1 bs) (encoded g.0.0) (drop g.0.1 bs) a.0 b.0,
        record { rises = a.1; known = a.2; some = b.1; within = b.2 },
      )

  entries_read : (h : Heading) (n low at : ℕ) (x : Row × ℕ) → entries_from bs h n low at ≡ Ok x → (drop at bs ≡ flat_map entry_bytes x.0 ++ drop x.1 bs) × RowIn h low x.0 × (length x.0 ≡ n)
  unfolding entries_from
  entries_read h zero low at x is =
      subst (λ (y : Row × ℕ). (drop at bs ≡ flat_map entry_bytes y.0 ++ drop y.1 bs) × RowIn h low y.0 × (length y.0 ≡ 0)) (ok_same ([], at) x is) (refl, tt, refl)
  entries_read h (suc n) low at x is =
      let f = followed (entry_from bs h low at) (λ e. prefixed (e.0 ∷ []) (entries_from bs h n (e.0.0 + 1) e.1)) x is in
      let g = fronts (f.0.0 ∷ []) (entries_from bs h n (f.0.0.0 + 1) f.0.1) x f.2 in
      let a = entry_read h low at f.0 f.1 in
      let i = entries_read h n (f.0.0.0 + 1) f.0.1 g.0 g.1 in
      subst (λ (y : Row × ℕ). (drop at bs ≡ flat_map entry_bytes y.0 ++ drop y.1 bs) × RowIn h low y.0 × (length y.0 ≡ suc n)) (sym g.2)
      (chained (drop at bs) (entry_bytes f.0.0) (drop f.0.1 bs) (flat_map entry_bytes g.0.0) (drop g.0.1 bs) a.0 i.0, (a.1, i.1), ap suc i.2)

  pub row_read : (h : Heading) (at : ℕ) (x : Row × ℕ) → row_from bs h at ≡ Ok x → (drop at bs ≡ row_bytes x.0 ++ drop x.1 bs) × RowIn h 0 x.0
  unfolding row_from
  row_read h at x is =
      let f = followed (read_at bs at) (λ n. entries_from bs h n.0 0 n.1) x is in
      let a = number_read at f.0 f.1 in
      let i = entries_read h f.0.0 0 f.0.1 x f.2 in
      (chained (drop at bs) (encoded (length x.0)) (drop f.0.1 bs) (flat_map entry_bytes x.0) (drop x.1 bs) (a.0 ∙ ap (λ n. encoded n ++ drop f.0.1 bs) (sym i.2)) i.0, i.1)

  rows_read : (h : Heading) (room n used at : ℕ) (x : List Row × ℕ) → rows_from bs h room n used at ≡ Ok x → used ≤ room
      → (drop at bs ≡ flat_map row_bytes x.0 ++ drop x.1 bs) × AllByRecursion (RowIn h 0) x.0 × (length x.0 ≡ n) × (used + entries_in x.0 ≤ room)
  unfolding rows_from
  rows_read h room zero used at x is fits =
      subst (λ (y : List Row × ℕ). (drop at bs ≡ flat_map row_bytes y.0 ++ drop y.1 bs) × AllByRecursion (RowIn h 0) y.0 × (length y.0 ≡ 0) × (used + entries_in y.0 ≤ room)) (ok_same ([], at) x is) (refl, tt, refl, omega arith)
  rows_read h room (suc n) used at x is fits =
      let f = followed (row_in bs h room used at) (λ r. prefixed (r.0 ∷ []) (rows_from bs h room n (used + length r.0) r.1)) x is in
      let k = followed (row_from bs h at) (λ r. room_for (fault_of TooShort) (length r.0) (room - used) r) f.0 f.1 in
      let t = roomy (fault_of TooShort) (length k.0.0) (room - used) k.0 f.0 k.2 in
      let few : length f.0.0 ≤ room - used = subst (λ (y : Row × ℕ). length y.0 ≤ room - used) t.1 t.0 in
      let fit : used + length f.0.0 ≤ room = omega arith in
      let g = fronts (f.0.0 ∷ []) (rows_from bs h room n (used + length f.0.0) f.0.1) x f.2 in
      let a = row_read h at f.0 (k.1 ∙ ap (λ (y : Row × ℕ). Ok y) t.1) in
      let i = rows_read h room n (used + length f.0.0) f.0.1 g.0 g.1 fit in
      subst (λ (y : List Row × ℕ). (drop at bs ≡ flat_map row_bytes y.0 ++ drop y.1 bs) × AllByRecursion (RowIn h 0) y.0 × (length y.0 ≡ suc n) × (used + entries_in y.0 ≤ room)) (sym g.2)
      (chained (drop at bs) (row_bytes f.0.0) (drop f.0.1 bs) (flat_map row_bytes g.0.0) (drop g.0.1 bs) a.0 i.0, (a.1, i.1), ap suc i.2, omega (arith, i.3))

  pub closed_read : (used at : ℕ) (x : Unit {0}) → closed_at bs used at ≡ Ok x → drop at bs ≡ encoded used
  closed_read used at x is =
      let f = followed (read_at bs at) (λ n. cond (eqb n.0 used) (cond (leb (length bs) n.1) (Ok tt) (Err (fault_at BytesFollow n.1))) (Err (fault_at TotalDiffers at))) x is in
      let t = tested (eqb f.0.0 used) (cond (leb (length bs) f.0.1) (Ok tt) (Err (fault_at BytesFollow f.0.1))) (fault_at TotalDiffers at) x f.2 in
      let u = tested (leb (length bs) f.0.1) (Ok tt) (fault_at BytesFollow f.0.1) x t.1 in
      (number_read at f.0 f.1).0 ∙ ap (λ n. encoded n ++ drop f.0.1 bs) (eqb-true f.0.0 used t.0)
      ∙ ap (λ z. encoded used ++ z) (drop_all f.0.1 bs (leb-true (length bs) f.0.1 u.0)) ∙ append-nil (encoded used)

  pub file_read : (starts room : ℕ) (m : Meaning) → loaded bs starts room ≡ Ok m → SheetFile bs m × LongEnough m starts room
  unfolding loaded
  file_read starts room m is =
      let f = followed (heading_in bs starts) (λ h. and_then (rows_from bs h.0 room h.0.carriers 0 h.1) (λ r. and_then (closed_at bs (entries_in r.0) r.1) (λ _. Ok (meaning_of h.0 r.0)))) m is in
      let d = followed (heading_from bs 0) (λ h. room_for (fault_of TooShort) (h.0.carriers + 1) starts h) f.0 f.1 in
      let t = roomy (fault_of TooShort) (d.0.0.carriers + 1) starts d.0 f.0 d.2 in
      let g = followed (rows_from bs f.0.0 room f.0.0.carriers 0 f.0.1) (λ r. and_then (closed_at bs (entries_in r.0) r.1) (λ _. Ok (meaning_of f.0.0 r.0))) m f.2 in
      let k = followed (closed_at bs (entries_in g.0.0) g.0.1) (λ _. Ok (meaning_of f.0.0 g.0.0)) m g.2 in
      let a = heading_read 0 f.0 (d.1 ∙ ap (λ (y : Heading × ℕ). Ok y) t.1) in
      let i = rows_read f.0.0 room f.0.0.carriers 0 f.0.1 g.0 g.1 (omega arith) in
      let e = closed_read (entries_in g.0.0) g.0.1 k.0 k.1 in
      subst (λ (y : Meaning). SheetFile bs y × LongEnough y starts room) (ok_same (meaning_of f.0.0 g.0.0) m k.2) (
        record {
          bounded = fillable (meaning_of f.0.0 g.0.0) (record { headed = a.1; counted = i.2; good = i.1 });
          bytes_are = a.0 ∙ ap (λ z. heading_bytes f.0.0 ++ z) (i.0 ∙ ap (λ z. flat_map row_bytes g.0.0 ++ z) e);
        },
        record { starts_fit = subst (λ (y : Heading × ℕ). y.0.carriers + 1 ≤ starts) t.1 t.0; entries_fit = omega (arith, i.3) },
      )

-- a row has no more entries than there are jobs
pub row_short : (h : Heading) (low : ℕ) (row : Row) → RowIn h low row → low ≤ h.jobs → low + length row ≤ h.jobs
row_short h low [] r l = omega arith
row_short h low (e ∷ es) r l = let a = r.0.rises in let b = r.0.known in let i = row_short h (e.0 + 1) es r.1 (omega arith) in omega arith

pub rows_short : (h : Heading) (rows : List Row) → AllByRecursion (RowIn h 0) rows → h.jobs ≤ 256 → entries_in rows ≤ 256 * length rows
rows_short h [] r l = omega arith
rows_short h (row ∷ rows) r l = let a = row_short h 0 row r.0 (omega arith) in let i = rows_short h rows r.1 l in omega arith

module _ (bs : List ℕ) where
  number_back : (at n : ℕ) (rest : List ℕ) → n < 2 ^ 42 → drop at bs ≡ encoded n ++ rest → (next : ℕ) × (read_at bs at ≡ Ok (n, next)) × (drop next bs ≡ rest)
  number_back at n rest small e =
      (at + length (encoded n), reads bs at n rest small e, sym (drop-drop (length (encoded n)) at bs) ∙ ap (drop (length (encoded n))) e ∙ drop_at (encoded n) rest (length (encoded n)) refl)

  passed_back : (test : ℕ → Bool) (e : Fault) (at n : ℕ) (rest : List ℕ) → test n ≡ true → n < 2 ^ 42 → drop at bs ≡ encoded n ++ rest → (next : ℕ) × (number_from bs test e at ≡ Ok (n, next)) × (drop next bs ≡ rest)
  passed_back test e at n rest passes small is =
      let p = number_back at n rest small is in
      (p.0, follows (read_at bs at) (λ n. cond (test n.0) (Ok n) (Err e)) (n, p.0) (Ok (n, p.0)) p.1 (tests (test n) (Ok (n, p.0)) (Err e) passes), p.2)

  count_back : (low high at n : ℕ) (rest : List ℕ) → low ≤ n → n ≤ high → high < 2 ^ 42 → drop at bs ≡ encoded n ++ rest → (next : ℕ) × (count_from bs low high at ≡ Ok (n, next)) × (drop next bs ≡ rest)
  count_back low high at n rest a b c is = passed_back (λ n. leb low n && leb n high) (fault_of CountsOutside) at n rest (from-between low n high a b) (omega arith) is

  job_back : (h : Heading) (low at n : ℕ) (rest : List ℕ) → low ≤ n → n < h.jobs → h.jobs ≤ 256 → drop at bs ≡ encoded n ++ rest → (next : ℕ) × (job_from bs h low at ≡ Ok (n, next)) × (drop next bs ≡ rest)
  job_back h low at n rest a b c is = passed_back (λ n. leb low n && ltb n h.jobs) (fault_at JobOutOfOrder at) at n rest (from_below low n h.jobs a b) (omega arith) is

  worth_back : (h : Heading) (at n : ℕ) (rest : List ℕ) → 1 ≤ n → n ≤ h.ceiling → h.ceiling ≤ 2 ^ 36 → drop at bs ≡ encoded n ++ rest → (next : ℕ) × (worth_from bs h at ≡ Ok (n, next)) × (drop next bs ≡ rest)
  worth_back h at n rest a b c is = passed_back (λ n. leb 1 n && leb n h.ceiling) (fault_at WorthOutside at) at n rest (from-between 1 n h.ceiling a b) (omega arith) is

  pub heading_back : (at : ℕ) (h : Heading) (rest : List ℕ) → HeadingIn h → drop at bs ≡ heading_bytes h ++ rest → (next : ℕ) × (heading_from bs at ≡ Ok (h, next)) × (drop next bs ≡ rest)
  heading_back at h rest good e =
      let p = count_back 1 128 at h.carriers ((encoded h.jobs ++ encoded h.ceiling) ++ rest) good.carriers_low good.carriers_high (omega arith) (e ∙ append_assoc (encoded h.carriers) (encoded h.jobs ++ encoded h.ceiling) rest) in
      let q = count_back 1 256 p.0 h.jobs (encoded h.ceiling ++ rest) good.jobs_low good.jobs_high (omega arith) (p.2 ∙ append_assoc (encoded h.jobs) (encoded h.ceiling) rest) in
      let r = count_back 0 (2 ^ 36) q.0 h.ceiling rest (omega arith) good.ceiling_high (omega arith) q.2 in (
        r.0,
        follows (count_from bs 1 128 at) (λ c. and_then (count_from bs 1 256 c.1) (λ j. and_then (count_from bs 0 (2 ^ 36) j.1) (λ w. Ok (record { carriers = c.0; jobs = j.0; ceiling = w.0 }, w.1)))) (h.carriers, p.0) (Ok (h, r.0)) p.1
            (follows (count_from bs 1 256 p.0) (λ j. and_then (count_from bs 0 (2 ^ 36) j.1) (λ w. Ok (record { carriers = h.carriers; jobs = j.0; ceiling = w.0 }, w.1))) (h.jobs, q.0) (Ok (h, r.0)) q.1
            (follows (count_from bs 0 (2 ^ 36) q.0) (λ w. Ok (record { carriers = h.carriers; jobs = h.jobs; ceiling = w.0 }, w.1)) (h.ceiling, r.0) (Ok (h, r.0)) r.1 refl)),
        r.2,
      )

  module _ (h : Heading) (good : HeadingIn h) where
    entry_back : (low at : ℕ) (x : ℕ × ℕ) (rest : List ℕ) → EntryIn h low x → drop at bs ≡ entry_bytes x ++ rest → (next : ℕ) × (entry_from bs h low at ≡ Ok (x, next)) × (drop next bs ≡ rest)
    entry_back low at x rest entry e =
        let p = job_back h low at x.0 (encoded x.1 ++ rest) entry.rises entry.known good.jobs_high (e ∙ append_assoc (encoded x.0) (encoded x.1) rest) in
        let q = worth_back h p.0 x.1 rest entry.some entry.within good.ceiling_high p.2 in (
          q.0,
          follows (job_from bs h low at) (λ j. and_then (worth_from bs h j.1) (λ w. Ok ((j.0, w.0), w.1))) (x.0, p.0) (Ok (x, q.0)) p.1
              (follows (worth_from bs h p.0) (λ w. Ok ((x.0, w.0), w.1)) (x.1, q.0) (Ok (x, q.0)) q.1 refl),
          q.2,
        )

    entries_back : (low at : ℕ) (row : Row) (rest : List ℕ) → RowIn h low row → drop at bs ≡ flat_map entry_bytes row ++ rest → (next : ℕ) × (entries_from bs h (length row) low at ≡ Ok (row, next)) × (drop next bs ≡ rest)
    unfolding entries_from
    entries_back low at [] rest r e = (at, refl, e)
    entries_back low at (x ∷ xs) rest r e =
        let p = entry_back low at x (flat_map entry_bytes xs ++ rest) r.0 (e ∙ append_assoc (entry_bytes x) (flat_map entry_bytes xs) rest) in
        let q = entries_back (x.0 + 1) p.0 xs rest r.1 p.2 in (
          q.0,
          follows (entry_from bs h low at) (λ e. prefixed (e.0 ∷ []) (entries_from bs h (length xs) (e.0.0 + 1) e.1)) (x, p.0) (Ok (x ∷ xs, q.0)) p.1 (ap (prefixed (x ∷ [])) q.1),
          q.2,
        )

    pub row_back : (at : ℕ) (row : Row) (rest : List ℕ) → RowIn h 0 row → drop at bs ≡ row_bytes row ++ rest → (next : ℕ) × (row_from bs h at ≡ Ok (row, next)) × (drop next bs ≡ rest)
    unfolding row_from
    row_back at row rest r e =
        let few = row_short h 0 row r (omega arith) in
        let high = good.jobs_high in
        let p = number_back at (length row) (flat_map entry_bytes row ++ rest) (omega arith) (e ∙ append_assoc (encoded (length row)) (flat_map entry_bytes row) rest) in
        let q = entries_back 0 p.0 row rest r p.2 in
        (q.0, follows (read_at bs at) (λ n. entries_from bs h n.0 0 n.1) (length row, p.0) (Ok (row, q.0)) p.1 q.1, q.2)

    rows_back : (room used at : ℕ) (rows : List Row) (rest : List ℕ) → AllByRecursion (RowIn h 0) rows → used + entries_in rows ≤ room → drop at bs ≡ flat_map row_bytes rows ++ rest → (next : ℕ) × (rows_from bs h room (length rows) used at ≡ Ok (rows, next)) × (drop next bs ≡ rest)
    unfolding rows_from
    rows_back room used at [] rest r fits e = (at, refl, e)
    rows_back room used at (row ∷ rows) rest r fits e =
        let p = row_back at row (flat_map row_bytes rows ++ rest) r.0 (e ∙ append_assoc (row_bytes row) (flat_map row_bytes rows) rest) in
        let q = rows_back room (used + length row) p.0 rows rest r.1 (omega arith) p.2 in (
          q.0,
          follows (row_in bs h room used at) (λ r. prefixed (r.0 ∷ []) (rows_from bs h room (length rows) (used + length r.0) r.1)) (row, p.0) (Ok (row ∷ rows, q.0))
              (follows (row_from bs h at) (λ r. room_for (fault_of TooShort) (length r.0) (room - used) r) (row, p.0) (Ok (row, p.0)) p.1 (room_there (fault_of TooShort) (length row) (room - used) (row, p.0) (omega arith)))
              (ap (prefixed (row ∷ [])) q.1),
          q.2,
        )

  pub closed_back : (used at : ℕ) → used < 2 ^ 42 → drop at bs ≡ encoded used → closed_at bs used at ≡ Ok tt
  closed_back used at small e =
      let p = number_back at used [] small (e ∙ sym (append-nil (encoded used))) in
      let l : length bs ≤ p.0 = omega (arith, sym (length-drop p.0 bs) ∙ ap length p.2) in
      follows (read_at bs at) (λ n. cond (eqb n.0 used) (cond (leb (length bs) n.1) (Ok tt) (Err (fault_at BytesFollow n.1))) (Err (fault_at TotalDiffers at))) (used, p.0) (Ok tt) p.1
      (tests (eqb used used) (cond (leb (length bs) p.0) (Ok tt) (Err (fault_at BytesFollow p.0))) (Err (fault_at TotalDiffers at)) (eq-eqb used used refl)
      ∙ tests (leb (length bs) p.0) (Ok tt) (Err (fault_at BytesFollow p.0)) (le-leb (length bs) p.0 l))

  pub file_back : (starts room : ℕ) (m : Meaning) → SheetFile bs m → LongEnough m starts room → loaded bs starts room ≡ Ok m
  unfolding loaded
  file_back starts room m file enough =
      let b = bounded m file.bounded in
      let h = heading_of m in
      let rows = m.rows in
      let g = b.headed in
      let p = heading_back 0 (heading_of m) (flat_map row_bytes m.rows ++ encoded (entries_in m.rows)) g file.bytes_are in
      let fits = enough.entries_fit in
      let q = rows_back (heading_of m) g room 0 p.0 m.rows (encoded (entries_in m.rows)) b.good (omega arith) p.2 in
      let few = rows_short (heading_of m) m.rows b.good g.jobs_high in
      let high = g.carriers_high in
      let n = b.counted in
      let c = closed_back (entries_in m.rows) q.0 (omega arith) q.2 in
      follows (heading_in bs starts) (λ h. and_then (rows_from bs h.0 room h.0.carriers 0 h.1) (λ r. and_then (closed_at bs (entries_in r.0) r.1) (λ _. Ok (meaning_of h.0 r.0)))) (h, p.0) (Ok m)
      (follows (heading_from bs 0) (λ h. room_for (fault_of TooShort) (h.0.carriers + 1) starts h) (h, p.0) (Ok (h, p.0)) p.1 (room_there (fault_of TooShort) (m.carriers + 1) starts (h, p.0) enough.starts_fit))
      (follows (rows_from bs h room m.carriers 0 p.0) (λ r. and_then (closed_at bs (entries_in r.0) r.1) (λ _. Ok (meaning_of h r.0))) (rows, q.0) (Ok m) (ap (λ n. rows_from bs (heading_of m) room n 0 p.0) (sym n) ∙ q.1)
      (follows (closed_at bs (entries_in rows) q.0) (λ _. Ok m) tt (Ok m) c refl))
