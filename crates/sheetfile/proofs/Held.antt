-- Tables that hold the first rows of a sheet: one row more, and all of them.
use Rattle.std.proofs.Common.{◌≡◌, ℕ, ◌+◌, ◌<◌, ◌≤◌, List, [], ◌∷◌, ◌++◌, map, length, take, drop, set, Ok, sym, refl, ap, ◌∙◌, append_assoc, arith}
use Rattle.std.specs.Result.{result_map_both}
use Rattle.std.proofs.lemmas.List.{length-append, length-map, take_all, take_at, take_more, take_more_set, take-append-drop}
use Rattle.refusals.specs.Faults.{fault_of}
use Rattle.numbers.specs.Writing.{over}
use Rattle.sources.proofs.Tables.{fills, means}
use Rattle.sources.specs.Meaning.{Meaning, row_of}
use Rattle.sources.specs.Sheets.{fill_verdict, sheet_of}
use Rattle.sources.specs.Tables.{Fillable, entries_of, entry_of, heading_of, starts_of}
use Rattle.sources.specs.declared.records.Entry.{Entry}
use Rattle.sheetfile.specs.Layout.{Row, entries_in}
use Rattle.sheetfile.specs.Tables.{HoldsRows, sheet_in}
use Rattle.sheetfile.proofs.Once.{entries_push_row, starts_push}
use Rattle.sheetfile.proofs.Sheets.{entries_push}

entries_long : (rows : List Row) → length (entries_of rows) ≡ entries_in rows
entries_long [] = refl
entries_long (row ∷ rows) = let i = entries_long rows in omega (arith, length-append (map entry_of row) (entries_of rows), length-map row entry_of)

-- no row yet
pub holds_none : (m : Meaning) (starts : List ℕ) (entries : List Entry) → 0 < length starts → HoldsRows m 0 (set starts 0 0) entries
holds_none m starts entries some = record { starting = take_more_set starts 0 0 some; listing = refl }

module _ (m : Meaning) (k : ℕ) (starts : List ℕ) (entries : List Entry) (holds : HoldsRows m k starts entries) where
  -- one row more
  pub holds_more : (used : ℕ) → k < length m.rows → used ≡ entries_in (take k m.rows) → k + 2 ≤ length starts →
      HoldsRows m (k + 1) (set starts (k + 1) (used + length (row_of m k))) (over entries used (map entry_of (row_of m k)))
  holds_more used inside is room =
      let rows : take (k + 1) m.rows ≡ take k m.rows ++ row_of m k ∷ [] = take_more m.rows k [] inside in
      let row = map entry_of (row_of m k) in
      let rest = drop (used + length (map entry_of (row_of m k))) entries in
      let front : take used entries ≡ entries_of (take k m.rows) = ap (λ n. take n entries) is ∙ holds.listing in
      let long : length (entries_of (take k m.rows) ++ map entry_of (row_of m k)) ≡ entries_in (take k m.rows ++ row_of m k ∷ []) =
      omega (arith, length-append (entries_of (take k m.rows)) row, entries_long (take k m.rows), length-map (row_of m k) entry_of, entries_push (take k m.rows) (row_of m k)) in
      record {
        starting = starts_push starts k (used + length (row_of m k)) (take k m.rows) (row_of m k) holds.starting (omega (arith, is)) (omega (arith, room)) ∙ ap starts_of (sym rows);
        listing = ap (λ r. take (entries_in r) (over entries used (map entry_of (row_of m k)))) rows
            ∙ ap (take (entries_in (take k m.rows ++ row_of m k ∷ []))) (ap (λ l. l ++ (row ++ rest)) front ∙ sym (append_assoc (entries_of (take k m.rows)) row rest))
            ∙ take_at (entries_of (take k m.rows) ++ row) rest (entries_in (take k m.rows ++ row_of m k ∷ [])) long
            ∙ sym (entries_push_row (take k m.rows) (row_of m k)) ∙ ap entries_of (sym rows);
      }

  -- all rows
  pub holds_all : Fillable m → k ≡ m.carriers → sheet_in (heading_of m) starts entries ≡ Ok m
  holds_all good all =
      let whole : take k m.rows ≡ m.rows = take_all k m.rows (omega (arith, all, good.sound.counted)) in
      let ss : take (m.carriers + 1) starts ≡ starts_of m.rows = ap (λ n. take (n + 1) starts) (sym all) ∙ holds.starting ∙ ap starts_of whole in
      let rest = drop (entries_in (take k m.rows)) entries in
      let es : entries ≡ entries_of m.rows ++ rest =
      sym (take-append-drop (entries_in (take k m.rows)) entries) ∙ ap (λ l. l ++ rest) (holds.listing ∙ ap entries_of whole) in
      let h = heading_of m in
      ap (λ z. result_map_both (λ _. sheet_of h z entries) fault_of (fill_verdict h z entries)) ss
      ∙ ap (λ z. result_map_both (λ _. sheet_of h (starts_of m.rows) z) fault_of (fill_verdict h (starts_of m.rows) z)) es
      ∙ ap (result_map_both (λ _. sheet_of h (starts_of m.rows) (entries_of m.rows ++ rest)) fault_of) (fills m good rest) ∙ ap Ok (means m rest good.sound.counted)
