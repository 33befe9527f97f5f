-- Written and read again, read and written again.
use Rattle.std.proofs.Common.{◌≡◌, ℕ, ◌+◌, ◌<◌, ◌≤◌, true, ltb, List, [], ◌∷◌, map, length, take, drop, Ok, Result, sym, refl, ap, ◌∙◌, subst, ⊎_elim, arith}
use Rattle.std.proofs.lemmas.List.{length-map, take_at}
use Rattle.std.proofs.lemmas.Bool.{cases_lt, cond-false, cond-true, le-ltb, lt-ltb}
use Rattle.std.specs.List.{AllByRecursion}
use Rattle.numbers.specs.Writing.{over}
use Rattle.refusals.specs.declared.Refusal.{Refusal}
use Rattle.sources.specs.Meaning.{Meaning, Rising, Sound}
use Rattle.sources.specs.Sheets.{within_limits}
use Rattle.sources.specs.Tables.{Fillable, heading_of}
use Rattle.sources.specs.declared.records.Heading.{Heading}
use Rattle.sheetfile.specs.Laws.{WritesLoadable}
use Rattle.sheetfile.specs.Layout.{Row, SheetFile, file_of, meaning_of}
use Rattle.sheetfile.specs.Writing.{nonzero, without_zeros, written}
use Rattle.sheetfile.proofs.Bounds.{RowIn, bounded, fillable, limits}
use Rattle.sheetfile.proofs.Exact.{file_back}

lower : (h : Heading) (low high : ℕ) (row : Row) → low ≤ high → RowIn h high row → RowIn h low row
lower h low high [] l r = tt
lower h low high (e ∷ es) l r = let a = r.0.rises in (record { rises = omega arith; known = r.0.known; some = r.0.some; within = r.0.within }, r.1)

-- a row of a source, without its zero entries, is within the layout
kept_in : (h : Heading) (low : ℕ) (row : Row) → Rising low row → AllByRecursion (λ e. e.0 < h.jobs) row → AllByRecursion (λ e. e.1 ≤ h.ceiling) row → RowIn h low (nonzero row)
kept_in h low [] r k w = tt
kept_in h low (e ∷ es) r k w =
    let rest = kept_in h (e.0 + 1) es r.1 k.1 w.1 in
    let a = r.0 in
    ⊎_elim
    (λ some. subst (RowIn h low) (sym (cond-true (ltb 0 e.1) (e ∷ nonzero es) (nonzero es) (lt-ltb 0 e.1 some))) (record { rises = a; known = k.0; some = omega arith; within = w.0 }, rest))
    (λ none. subst (RowIn h low) (sym (cond-false (ltb 0 e.1) (e ∷ nonzero es) (nonzero es) (le-ltb 0 e.1 none))) (lower h low (e.0 + 1) (nonzero es) (omega arith) rest))
    (cases_lt 0 e.1)

all_kept_in : (h : Heading) (rows : List Row) → AllByRecursion (Rising 0) rows → AllByRecursion (AllByRecursion (λ e. e.0 < h.jobs)) rows → AllByRecursion (AllByRecursion (λ e. e.1 ≤ h.ceiling)) rows → AllByRecursion (RowIn h 0) (map nonzero rows)
all_kept_in h [] r k w = tt
all_kept_in h (row ∷ rows) r k w = (kept_in h 0 row r.0 k.0 w.0, all_kept_in h rows r.1 k.1 w.1)

pub written_in : (m : Meaning) → Sound m → within_limits (heading_of m) ≡ true → Fillable (without_zeros m)
written_in m s is =
    fillable (without_zeros m) (record { headed = limits (heading_of m) is; counted = length-map m.rows nonzero ∙ s.counted; good = all_kept_in (heading_of m) m.rows s.rising s.known s.within })

-- a row of the layout has no zero entries
no_zeros : (h : Heading) (low : ℕ) (row : Row) → RowIn h low row → nonzero row ≡ row
no_zeros h low [] r = refl
no_zeros h low (e ∷ es) r = let a = r.0.some in cond-true (ltb 0 e.1) (e ∷ nonzero es) (nonzero es) (lt-ltb 0 e.1 (omega arith)) ∙ ap (λ l. e ∷ l) (no_zeros h (e.0 + 1) es r.1)

no_zeros_in : (h : Heading) (rows : List Row) → AllByRecursion (RowIn h 0) rows → map nonzero rows ≡ rows
no_zeros_in h [] r = refl
no_zeros_in h (row ∷ rows) r = ap (λ x. x ∷ map nonzero rows) (no_zeros h 0 row r.0) ∙ ap (λ l. row ∷ l) (no_zeros_in h rows r.1)

-- what is written of a sheet file are the same bytes
pub same_bytes : (m : Meaning) (bytes : List ℕ) → SheetFile bytes m → written m ≡ bytes
same_bytes m bytes file = ap (λ rows. file_of (meaning_of (heading_of m) rows)) (no_zeros_in (heading_of m) m.rows (bounded m file.bounded).good) ∙ sym file.bytes_are

-- a source that was written, where there is room for it
module _ (m : Meaning) (s : Sound m) (is : within_limits (heading_of m) ≡ true) (out out' : List ℕ) (n : ℕ) (long : n ≡ length (written m)) (room : n ≤ length out) (put : out' ≡ over out 0 (written m)) where
  front : (k : ℕ) → ◌≡◌ {A = Result ℕ Refusal} (Ok n) (Ok k) → SheetFile (take k out') (without_zeros m)
  front k same =
      let e : k ≡ length (written m) = sym (let q : n ≡ k = cc in q) ∙ long in
      record { bounded = written_in m s is; bytes_are = ap (take k) put ∙ take_at (written m) (drop (0 + length (written m)) out) k (sym e) }

  pub written_loads : WritesLoadable m (Ok n) out'
  written_loads = record {
    file = front;
    loads = λ k starts room' same enough. file_back (take k out') starts room' (without_zeros m) (front k same) enough;
    again = λ k bytes same file. (front k same).bytes_are ∙ same_bytes m bytes file;
  }
