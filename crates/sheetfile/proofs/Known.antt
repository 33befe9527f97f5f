-- A row that is known to be accepted.
use Rattle.std.proofs.Common.{◌≡◌, ℕ, zero, suc, ◌+◌, true, List, [], ◌∷◌, ◌++◌, length, is_ok, Ok, Err, Result, sym, refl, ap, ◌∙◌}
use Rattle.std.proofs.lemmas.Bool.{false≢true}
use Rattle.refusals.specs.declared.Fault.{Fault}
use Rattle.numbers.specs.Reading.{read_at}
use Rattle.sources.specs.declared.records.Heading.{Heading}
use Rattle.sheetfile.specs.Layout.{Row}
use Rattle.sheetfile.specs.Readers.{value_of}
use Rattle.sheetfile.specs.Reading.{entries_from, entry_from, row_from}
use Rattle.sheetfile.specs.States.{Stand, next_row}
use Rattle.sheetfile.specs.Steps.{prefixed}
use Rattle.sheetfile.proofs.Steps.{err_not_ok, followed, ok_same}
use Rattle.sheetfile.proofs.Tables.{row_accepted}

prefixed_length : (e : ℕ × ℕ) (r : Result (Row × ℕ) Fault) (x : Row × ℕ) → prefixed (e ∷ []) r ≡ Ok x → (y : Row × ℕ) × (r ≡ Ok y) × (length x.0 ≡ suc (length y.0))
prefixed_length e (Err f) x is = err_not_ok f x is
prefixed_length e (Ok y) x is = let same = ok_same ((e ∷ []) ++ y.0, y.1) x is in (y, refl, sym (ap (λ (z : Row × ℕ). length z.0) same))

entries_length : (bs : List ℕ) (h : Heading) (n low at : ℕ) (x : Row × ℕ) → entries_from bs h n low at ≡ Ok x → length x.0 ≡ n
unfolding entries_from
entries_length bs h zero low at x is = sym (ap (λ (z : Row × ℕ). length z.0) (ok_same ([], at) x is))
entries_length bs h (suc n) low at x is =
    let f = followed (entry_from bs h low at) (λ e. prefixed (e.0 ∷ []) (entries_from bs h n (e.0.0 + 1) e.1)) x is in
    let p = prefixed_length f.0.0 (entries_from bs h n (f.0.0.0 + 1) f.0.1) x f.2 in
    p.2 ∙ ap suc (entries_length bs h n (f.0.0.0 + 1) f.0.1 p.0 p.1)

row_announced : (bs : List ℕ) (h : Heading) (at : ℕ) (x : Row × ℕ) → row_from bs h at ≡ Ok x → value_of (read_at bs at) ≡ Ok (length x.0)
unfolding row_from
row_announced bs h at x is =
    let f = followed (read_at bs at) (λ n. entries_from bs h n.0 0 n.1) x is in
    ap value_of f.1 ∙ ap Ok (sym (entries_length bs h f.0.0 0 f.0.1 x f.2))

there : {A : Type 0} (r : Result A Fault) → is_ok r ≡ true → (x : A) × (r ≡ Ok x)
there (Ok x) e = (x, refl)
there (Err f) e = absurd (false≢true e)

-- The row, and how many entries it announces.
pub known : (l : Stand) (starts room : ℕ) → is_ok (next_row l starts room) ≡ true → (x : Row × ℕ) × (next_row l starts room ≡ Ok x) × (value_of (read_at l.reader.bytes.now l.reader.at) ≡ Ok (length x.0))
known l starts room ok =
    let t = there (next_row l starts room) ok in
    (t.0, t.1, row_announced l.reader.bytes.now l.heading l.reader.at t.0 (row_accepted l starts room t.0 t.1).0)
