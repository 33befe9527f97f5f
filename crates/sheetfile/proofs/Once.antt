-- A load in one reading: what the tables begin with.
use Rattle.std.proofs.Common.{◌≡◌, ℕ, ◌+◌, ◌<◌, ◌≤◌, List, [], ◌∷◌, ◌++◌, map, length, take, drop, set, Ok, sym, ap, ◌∙◌, subst, append_assoc, arith, length-take}
use borrow.Rule.Slice.PartMut.{put_mid}
use Rattle.std.proofs.lemmas.List.{append-nil, length-map, take_all, take_more_set, take-append-le, take-append-drop}
use Rattle.std.proofs.Math.Seq.{take-append-add}
use Rattle.refusals.specs.Faults.{fault_of}
use Rattle.refusals.specs.declared.Refusal.TheVariants.{TooShort}
use Rattle.sources.specs.Tables.{ends_of, entries_of, entry_of, starts_of}
use Rattle.sources.specs.declared.records.Entry.{Entry}
use Rattle.sources.specs.declared.records.Heading.{Heading}
use Rattle.numbers.specs.Writing.{over}
use Rattle.sheetfile.specs.Layout.{Row, entries_in}
use Rattle.sheetfile.specs.Reading.{heading_at, heading_from}
use Rattle.sheetfile.specs.Steps.{room_for}
use Rattle.sheetfile.specs.Tables.{BeginsWith}
use Rattle.sheetfile.proofs.Steps.{followed, roomy}

pub heading_fits : (bs : List ℕ) (starts at : ℕ) (x : Heading × ℕ) → heading_at bs starts at ≡ Ok x → x.0.carriers + 1 ≤ starts
heading_fits bs starts at x is =
    let f = followed (heading_from bs at) (λ h. room_for (fault_of TooShort) (h.0.carriers + 1) starts h) x is in
    let fits = roomy (fault_of TooShort) (f.0.0.carriers + 1) starts f.0 x f.2 in
    subst (λ (y : Heading × ℕ). y.0.carriers + 1 ≤ starts) fits.1 fits.0

ends_push : (u : ℕ) (rows : List Row) (row : Row) → ends_of u (rows ++ row ∷ []) ≡ ends_of u rows ++ (u + entries_in rows + length row) ∷ []
ends_push u [] row = let e : u + length row ≡ u + 0 + length row = omega arith in ap (λ n. n ∷ []) e
ends_push u (r ∷ rows) row =
    let e : u + length r + entries_in rows + length row ≡ u + (length r + entries_in rows) + length row = omega arith in
    ap (λ l. (u + length r) ∷ l) (ends_push (u + length r) rows row) ∙ ap (λ n. (u + length r) ∷ (ends_of (u + length r) rows ++ n ∷ [])) e

pub starts_push : (starts : List ℕ) (i end : ℕ) (rows : List Row) (row : Row) → take (i + 1) starts ≡ starts_of rows → end ≡ entries_in rows + length row → i + 1 < length starts →
    take (i + 1 + 1) (set starts (i + 1) end) ≡ starts_of (rows ++ row ∷ [])
starts_push starts i end rows row before is inside =
    let e : end ≡ 0 + entries_in rows + length row = omega (arith, is) in
    take_more_set starts (i + 1) end inside ∙ ap (λ l. l ++ end ∷ []) before ∙ ap (λ n. 0 ∷ (ends_of 0 rows ++ n ∷ [])) e ∙ sym (ap (λ l. 0 ∷ l) (ends_push 0 rows row))

pub entries_push_row : (rows : List Row) (row : Row) → entries_of (rows ++ row ∷ []) ≡ entries_of rows ++ map entry_of row
entries_push_row [] row = append-nil (map entry_of row)
entries_push_row (r ∷ rows) row = ap (λ l. map entry_of r ++ l) (entries_push_row rows row) ∙ sym (append_assoc (map entry_of r) (entries_of rows) (map entry_of row))

pub entries_put : (entries table : List Entry) (used k n : ℕ) (rows : List Row) (row : Row) → take used entries ≡ entries_of rows → BeginsWith table row → n ≡ length row → used ≤ length entries → n ≤ length table →
    take (used + n) (put_mid used k entries table) ≡ entries_of (rows ++ row ∷ [])
entries_put entries table used k n rows row before begins is low room =
    let front : length (take used entries) ≡ used = omega (arith, length-take used entries) in
    let rest = drop k (drop used entries) in
    let whole : take (length table) (map entry_of row) ≡ map entry_of row = take_all (length table) (map entry_of row) (omega (arith, length-map row entry_of, is)) in
    ap (λ m. take (m + n) (take used entries ++ (table ++ rest))) (sym front)
    ∙ take-append-add (take used entries) (table ++ rest) n
    ∙ ap (λ l. take used entries ++ l) (take-append-le n table rest room ∙ ap (λ m. take m table) is ∙ begins ∙ whole)
    ∙ ap (λ l. l ++ map entry_of row) before
    ∙ sym (entries_push_row rows row)

-- a table that begins with some elements is that table with them put over it
pub over_itself : {X : Type 0} (xs ys : List X) (n : ℕ) → n ≡ length ys → take n xs ≡ ys → xs ≡ over xs 0 ys
over_itself xs ys n is e =
    let k : length ys ≡ 0 + length ys = omega arith in
    sym (take-append-drop (length ys) xs) ∙ ap (λ l. l ++ drop (length ys) xs) (ap (λ m. take m xs) (sym is) ∙ e) ∙ ap (λ m. ys ++ drop m xs) k
