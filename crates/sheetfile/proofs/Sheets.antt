-- The steps of a loop that reads rows, and a whole file from its parts.
use Rattle.std.proofs.Common.{◌≡◌, ℕ, zero, suc, ◌+◌, ◌-◌, ◌<◌, ◌≤◌, List, [], ◌∷◌, ◌++◌, length, Ok, Err, Result, sym, ap, ◌∙◌, subst, arith}
use Rattle.std.proofs.lemmas.List.{append-nil}
use Rattle.refusals.specs.Faults.{fault_of}
use Rattle.refusals.specs.declared.Fault.{Fault}
use Rattle.refusals.specs.declared.Refusal.TheVariants.{TooShort}
use Rattle.sources.specs.Meaning.{Meaning}
use Rattle.sources.specs.Tables.{heading_of}
use Rattle.sources.specs.declared.records.Heading.{Heading}
use Rattle.sheetfile.specs.Layout.{Row, entries_in, meaning_of}
use Rattle.sheetfile.specs.Reading.{closed_at, heading_in, loaded, row_from, row_in, rows_from}
use Rattle.sheetfile.specs.Steps.{and_then, prefixed, room_for}
use Rattle.sheetfile.proofs.Rows.{prefixed_more}
use Rattle.sheetfile.proofs.Steps.{followed, follows, ok_same, roomy}

pub entries_push : (rows : List Row) (row : Row) → entries_in (rows ++ row ∷ []) ≡ entries_in rows + length row
entries_push [] row = omega arith
entries_push (r ∷ rows) row = let i = entries_push rows row in omega arith

module _ (bs : List ℕ) (h : Heading) (room : ℕ) where
  pub row_fits : (used at : ℕ) (x : Row × ℕ) → row_in bs h room used at ≡ Ok x → (row_from bs h at ≡ Ok x) × (length x.0 ≤ room - used)
  row_fits used at x is =
      let g = followed (row_from bs h at) (λ r. room_for (fault_of TooShort) (length r.0) (room - used) r) x is in
      let q = roomy (fault_of TooShort) (length g.0.0) (room - used) g.0 x g.2 in
      (g.1 ∙ ap (λ (y : Row × ℕ). Ok y) q.1, subst (λ (y : Row × ℕ). length y.0 ≤ room - used) q.1 q.0)

  pub rows_more : (n used at : ℕ) (row : Row) (next : ℕ) → 0 < n → row_in bs h room used at ≡ Ok (row, next) → rows_from bs h room n used at ≡ prefixed (row ∷ []) (rows_from bs h room (n - 1) (used + length row) next)
  unfolding rows_from
  rows_more zero used at row next some is = absurd (omega arith)
  rows_more (suc n) used at row next some is =
      let e : suc n - 1 ≡ n = omega arith in
      follows (row_in bs h room used at) (λ r. prefixed (r.0 ∷ []) (rows_from bs h room n (used + length r.0) r.1)) (row, next) (prefixed (row ∷ []) (rows_from bs h room (suc n - 1) (used + length row) next)) is
      (ap (λ m. prefixed (row ∷ []) (rows_from bs h room m (used + length row) next)) (sym e))

  pub rows_fault : (n used at : ℕ) (e : Fault) → 0 < n → row_in bs h room used at ≡ Err e → rows_from bs h room n used at ≡ Err e
  unfolding rows_from
  rows_fault zero used at e some is = absurd (omega arith)
  rows_fault (suc n) used at e some is = ap (λ q. and_then q (λ r. prefixed (r.0 ∷ []) (rows_from bs h room n (used + length r.0) r.1))) is

  pub rows_none : (n used at : ℕ) → n ≡ 0 → rows_from bs h room n used at ≡ Ok ([], at)
  unfolding rows_from
  rows_none n used at none = ap (λ m. rows_from bs h room m used at) none

  -- one more row behind those that were read
  pub row_more : (n i used at : ℕ) (row : Row) (next : ℕ) (done : List Row) (r : Result (List Row × ℕ) Fault) → i < n → row_in bs h room used at ≡ Ok (row, next)
      → r ≡ prefixed done (rows_from bs h room (n - i) used at) → r ≡ prefixed (done ++ row ∷ []) (rows_from bs h room (n - (i + 1)) (used + length row) next)
  row_more n i used at row next done r inside is was =
      let one : n - i - 1 ≡ n - (i + 1) = omega arith in
      was ∙ ap (prefixed done) (rows_more (n - i) used at row next (omega arith) is)
      ∙ prefixed_more done (row ∷ []) (rows_from bs h room (n - i - 1) (used + length row) next)
      ∙ ap (λ m. prefixed (done ++ row ∷ []) (rows_from bs h room m (used + length row) next)) one

module _ (bs : List ℕ) (starts room : ℕ) where
  pub load_fault : (e : Fault) → heading_in bs starts ≡ Err e → loaded bs starts room ≡ Err e
  unfolding loaded
  load_fault e is = ap (λ q. and_then q (λ h. and_then (rows_from bs h.0 room h.0.carriers 0 h.1) (λ r. and_then (closed_at bs (entries_in r.0) r.1) (λ _. Ok (meaning_of h.0 r.0))))) is

  pub load_headed : (h : Heading) (at : ℕ) (r : Result (List Row × ℕ) Fault) → heading_in bs starts ≡ Ok (h, at) → rows_from bs h room h.carriers 0 at ≡ r → loaded bs starts room ≡ and_then r (λ r. and_then (closed_at bs (entries_in r.0) r.1) (λ _. Ok (meaning_of h r.0)))
  unfolding loaded
  load_headed h at r is rest =
      follows (heading_in bs starts) (λ h. and_then (rows_from bs h.0 room h.0.carriers 0 h.1) (λ r. and_then (closed_at bs (entries_in r.0) r.1) (λ _. Ok (meaning_of h.0 r.0)))) (h, at) (and_then r (λ r. and_then (closed_at bs (entries_in r.0) r.1) (λ _. Ok (meaning_of h r.0)))) is
      (ap (λ q. and_then q (λ r. and_then (closed_at bs (entries_in r.0) r.1) (λ _. Ok (meaning_of h r.0)))) rest)

  -- the parts of a file that loads
  pub load_parts : (m : Meaning) → loaded bs starts room ≡ Ok m
      → (at : ℕ) × (end : ℕ) × (heading_in bs starts ≡ Ok (heading_of m, at)) × (rows_from bs (heading_of m) room m.carriers 0 at ≡ Ok (m.rows, end)) × (closed_at bs (entries_in m.rows) end ≡ Ok tt)
  unfolding loaded
  load_parts m is =
      let f = followed (heading_in bs starts) (λ h. and_then (rows_from bs h.0 room h.0.carriers 0 h.1) (λ r. and_then (closed_at bs (entries_in r.0) r.1) (λ _. Ok (meaning_of h.0 r.0)))) m is in
      let g = followed (rows_from bs f.0.0 room f.0.0.carriers 0 f.0.1) (λ r. and_then (closed_at bs (entries_in r.0) r.1) (λ _. Ok (meaning_of f.0.0 r.0))) m f.2 in
      let k = followed (closed_at bs (entries_in g.0.0) g.0.1) (λ _. Ok (meaning_of f.0.0 g.0.0)) m g.2 in
      let same = ok_same (meaning_of f.0.0 g.0.0) m k.2 in
      subst (λ (y : Meaning). (at : ℕ) × (end : ℕ) × (heading_in bs starts ≡ Ok (heading_of y, at)) × (rows_from bs (heading_of y) room y.carriers 0 at ≡ Ok (y.rows, end)) × (closed_at bs (entries_in y.rows) end ≡ Ok tt)) same
      (f.0.1, g.0.1, f.1, g.1, k.1)

  -- all rows were read, and the end decides
  pub load_closed : (h : Heading) (first n used at : ℕ) (done : List Row) (y : Result (Unit {0}) Fault) → heading_in bs starts ≡ Ok (h, first)
      → rows_from bs h room h.carriers 0 first ≡ prefixed done (rows_from bs h room n used at) → n ≡ 0 → used ≡ entries_in done → closed_at bs used at ≡ y
      → loaded bs starts room ≡ and_then y (λ _. Ok (meaning_of h done))
  load_closed h first n used at done y is rows none all end =
      load_headed h first (Ok (done, at)) is (rows ∙ ap (prefixed done) (rows_none bs h room n used at none) ∙ ap (λ rs. Ok (rs, at)) (append-nil done))
      ∙ ap (λ q. and_then q (λ _. Ok (meaning_of h done))) (ap (λ m. closed_at bs m at) (sym all) ∙ end)
