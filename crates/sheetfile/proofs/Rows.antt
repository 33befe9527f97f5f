-- The steps of a loop that reads a row.
use Rattle.std.proofs.Common.{◌≡◌, ℕ, zero, suc, ◌+◌, ◌-◌, ◌<◌, ◌≤◌, List, [], ◌∷◌, ◌++◌, map, length, take, set, Ok, Err, Result, sym, refl, ap, ◌∙◌, subst, arith}
use Rattle.std.proofs.lemmas.List.{append_assoc, length-map, length_push, length-set, map_push, take_all, take-append-le, take_more_set}
use Rattle.refusals.specs.declared.Fault.{Fault}
use Rattle.numbers.specs.Reading.{read_at}
use Rattle.sources.specs.Tables.{entry_of}
use Rattle.sources.specs.declared.records.Entry.{Entry}
use Rattle.sources.specs.declared.records.Heading.{Heading}
use Rattle.sheetfile.specs.Layout.{Row}
use Rattle.sheetfile.specs.Reading.{entries_from, entry_from, row_from}
use Rattle.sheetfile.specs.Steps.{and_then, prefixed}
use Rattle.sheetfile.specs.Tables.{BeginsWith, HoldsRow}
use Rattle.sheetfile.proofs.Steps.{follows}

pub prefixed_none : {A : Type 0} (r : Result (List A × ℕ) Fault) → prefixed [] r ≡ r
prefixed_none (Err e) = refl
prefixed_none (Ok (ys, at)) = refl

pub prefixed_more : {A : Type 0} (xs ys : List A) (r : Result (List A × ℕ) Fault) → prefixed xs (prefixed ys r) ≡ prefixed (xs ++ ys) r
prefixed_more xs ys (Err e) = refl
prefixed_more xs ys (Ok (zs, at)) = ap (λ l. Ok (l, at)) (sym (append_assoc xs ys zs))

module _ (bs : List ℕ) (h : Heading) where
  -- one more entry
  pub entries_more : (n low at : ℕ) (x : ℕ × ℕ) (next : ℕ) → 0 < n → entry_from bs h low at ≡ Ok (x, next) → entries_from bs h n low at ≡ prefixed (x ∷ []) (entries_from bs h (n - 1) (x.0 + 1) next)
  unfolding entries_from
  entries_more zero low at x next some is = absurd (omega arith)
  entries_more (suc n) low at x next some is =
      let e : suc n - 1 ≡ n = omega arith in
      follows (entry_from bs h low at) (λ e. prefixed (e.0 ∷ []) (entries_from bs h n (e.0.0 + 1) e.1)) (x, next) (prefixed (x ∷ []) (entries_from bs h (suc n - 1) (x.0 + 1) next)) is
      (ap (λ m. prefixed (x ∷ []) (entries_from bs h m (x.0 + 1) next)) (sym e))

  pub entries_fault : (n low at : ℕ) (e : Fault) → 0 < n → entry_from bs h low at ≡ Err e → entries_from bs h n low at ≡ Err e
  unfolding entries_from
  entries_fault zero low at e some is = absurd (omega arith)
  entries_fault (suc n) low at e some is = ap (λ q. and_then q (λ e. prefixed (e.0 ∷ []) (entries_from bs h n (e.0.0 + 1) e.1))) is

  pub entries_none : (n low at : ℕ) → n ≡ 0 → entries_from bs h n low at ≡ Ok ([], at)
  unfolding entries_from
  entries_none n low at none = ap (λ m. entries_from bs h m low at) none

-- what was read of a row, in its table
pub held : (table : List Entry) (row : Row) (at : ℕ) (r : Result (Row × ℕ) Fault) → BeginsWith table row → r ≡ Ok (row, at) → HoldsRow r table
held table row at r begins is = subst (λ q. HoldsRow q table) (sym is) begins

module _ (table : List Entry) (row : Row) (x : ℕ × ℕ) (begins : BeginsWith table row) where
  -- a turn of the loop, with a place for the entry and without
  pub begins_set : length row < length table → BeginsWith (set table (length row) (entry_of x)) (row ++ x ∷ [])
  begins_set inside =
      let n : length (map entry_of row) ≡ length row = length-map row entry_of in
      let a : take (length (row ++ x ∷ [])) (set table (length row) (entry_of x)) ≡ map entry_of row ++ entry_of x ∷ [] =
      ap (λ m. take m (set table (length row) (entry_of x))) (length_push row x) ∙ take_more_set table (length row) (entry_of x) inside
      ∙ ap (λ l. l ++ entry_of x ∷ []) (begins ∙ take_all (length table) (map entry_of row) (omega (arith, n))) in
      let b : take (length (set table (length row) (entry_of x))) (map entry_of (row ++ x ∷ [])) ≡ map entry_of row ++ entry_of x ∷ [] =
      ap (λ m. take m (map entry_of (row ++ x ∷ []))) (length-set table (length row) (entry_of x)) ∙ ap (take (length table)) (map_push entry_of row x)
      ∙ take_all (length table) (map entry_of row ++ entry_of x ∷ []) (omega (arith, n, length_push (map entry_of row) (entry_of x))) in
      a ∙ sym b

  pub begins_past : length table ≤ length row → BeginsWith table (row ++ x ∷ [])
  begins_past past =
      let n : length (map entry_of row) ≡ length row = length-map row entry_of in
      take_all (length (row ++ x ∷ [])) table (omega (arith, length_push row x)) ∙ sym (take_all (length row) table past) ∙ begins
      ∙ sym (take-append-le (length table) (map entry_of row) (entry_of x ∷ []) (omega (arith, n))) ∙ ap (take (length table)) (sym (map_push entry_of row x))

-- a refused row
pub refused : (table : List Entry) (e : Fault) (r : Result (Row × ℕ) Fault) → r ≡ Err e → HoldsRow r table
refused table e r is = subst (λ q. HoldsRow q table) (sym is) tt

-- the row is its entries
pub row_entries : (bs : List ℕ) (h : Heading) (at n next : ℕ) (r : Result (Row × ℕ) Fault) → read_at bs at ≡ Ok (n, next) → entries_from bs h n 0 next ≡ r → row_from bs h at ≡ r
unfolding row_from
row_entries bs h at n next r is rest = follows (read_at bs at) (λ n. entries_from bs h n.0 0 n.1) (n, next) r is rest

pub row_fault : (bs : List ℕ) (h : Heading) (at : ℕ) (e : Fault) → read_at bs at ≡ Err e → row_from bs h at ≡ Err e
unfolding row_from
row_fault bs h at e is = ap (λ q. and_then q (λ n. entries_from bs h n.0 0 n.1)) is

pub begins_none : (table : List Entry) → BeginsWith table []
begins_none table = sym (take_all (length table) [] (omega arith))

-- one more entry behind those that were read
pub one_more : (bs : List ℕ) (h : Heading) (n k low at : ℕ) (x : ℕ × ℕ) (next : ℕ) (done : Row) (r : Result (Row × ℕ) Fault) → k < n → entry_from bs h low at ≡ Ok (x, next)
    → r ≡ prefixed done (entries_from bs h (n - k) low at) → r ≡ prefixed (done ++ x ∷ []) (entries_from bs h (n - (k + 1)) (x.0 + 1) next)
one_more bs h n k low at x next done r inside is was =
    let one : n - k - 1 ≡ n - (k + 1) = omega arith in
    was ∙ ap (prefixed done) (entries_more bs h (n - k) low at x next (omega arith) is)
    ∙ prefixed_more done (x ∷ []) (entries_from bs h (n - k - 1) (x.0 + 1) next)
    ∙ ap (λ m. prefixed (done ++ x ∷ []) (entries_from bs h m (x.0 + 1) next)) one
