-- A row that a loader takes, and what it makes of the loader and of the tables.
use Rattle.std.proofs.Common.{◌≡◌, ℕ, ◌+◌, ◌-◌, ◌<◌, ◌≤◌, min, true, List, map, length, set, is_ok, Ok, Err, sym, ap, ◌∙◌, subst, arith}
use borrow.Rule.Slice.PartMut.{put_mid}
use Rattle.std.proofs.lemmas.List.{length-map}
use Rattle.numbers.specs.Reading.{read_at}
use Rattle.refusals.specs.declared.Fault.{Fault}
use Rattle.sources.specs.Tables.{entry_of}
use Rattle.sources.specs.declared.records.Entry.{Entry}
use Rattle.sheetfile.specs.Begun.{Begun}
use Rattle.sheetfile.specs.Layout.{Row}
use Rattle.sheetfile.specs.Readers.{reader_after, value_of}
use Rattle.sheetfile.specs.Reading.{row_from}
use Rattle.sheetfile.specs.States.{RowRead, Stand, after_row, entries_after_row, next_row, starts_after_row}
use Rattle.sheetfile.specs.Steps.{updated}
use Rattle.sheetfile.specs.Tables.{HoldsRow, row_count}
use Rattle.sheetfile.specs.declared.reader.Reader.{Reader}
use Rattle.sheetfile.proofs.Begun.{begun_more}
use Rattle.sheetfile.proofs.Known.{known}
use Rattle.sheetfile.proofs.Overs.{over_end}
use Rattle.sheetfile.proofs.Steps.{ok_same}
use Rattle.sheetfile.proofs.Tables.{counted, holds_whole, put_over, row_accepted, updated_err, updated_ok}

-- The next row has so many entries, and is accepted for tables of such lengths.
pub record Takes (l : Stand) (starts room count : ℕ) : Type 0 where
  pub row : Row
  pub next : ℕ
  pub accepted : next_row l starts room ≡ Ok (row, next)
  pub there : row_from l.reader.bytes.now l.heading l.reader.at ≡ Ok (row, next)
  pub counts : length row ≡ count
  pub fits : count ≤ room - l.used
  pub some_left : l.rows < l.heading.carriers

takes : (l : Stand) (starts room count : ℕ) (x : Row × ℕ) → next_row l starts room ≡ Ok x → length x.0 ≡ count → Takes l starts room count
takes l starts room count x is counts =
    let a = row_accepted l starts room x is in
    record { row = x.0; next = x.1; accepted = is; there = a.0; counts = counts; fits = omega (arith, a.1, counts); some_left = a.3 }

-- by its count, which is told where it is accepted
pub takes_counted : (l : Stand) (starts room count : ℕ) → Ok count ≡ value_of (row_count (next_row l starts room)) → Takes l starts room count
takes_counted l starts room count is = let s = counted (next_row l starts room) count is in takes l starts room count (s.0, s.1) s.2 s.3

-- by the number of entries that it announces, where it is known to be accepted
pub takes_announced : (l : Stand) (starts room count : ℕ) → is_ok (next_row l starts room) ≡ true → Ok count ≡ value_of (read_at l.reader.bytes.now l.reader.at) → Takes l starts room count
takes_announced l starts room count ok is = let k = known l starts room ok in takes l starts room count k.0 k.1 (sym (ok_same count (length k.0.0) (is ∙ k.2)))

module _ (l : Stand) (starts : List ℕ) (entries : List Entry) (count : ℕ) (k : Takes l (length starts) (length entries) count) where
  start_put : set starts (l.rows + 1) (l.used + count) ≡ updated (next_row l (length starts) (length entries)) starts (starts_after_row l starts)
  start_put =
      ap (λ n. set starts (l.rows + 1) (l.used + n)) (sym k.counts)
      ∙ updated_ok (next_row l (length starts) (length entries)) (k.row, k.next) starts (starts_after_row l starts) k.accepted

  -- the part of the table that was read into
  row_put : (table : List Entry) (place : ℕ) → place ≡ min l.used (length entries) → length table ≡ count → HoldsRow (row_from l.reader.bytes.now l.heading l.reader.at) table
      → put_mid place (place + count - place) entries table ≡ updated (next_row l (length starts) (length entries)) entries (entries_after_row l entries)
  row_put table place is long held =
      put_over entries table (map entry_of k.row) place (place + count) (holds_whole table k.row k.next _ k.there (omega (arith, long, k.counts)) held) (omega (arith, k.counts, length-map k.row entry_of))
      ∙ over_end entries (map entry_of k.row) l.used place is (omega (arith, k.fits, k.counts, length-map k.row entry_of))
      ∙ updated_ok (next_row l (length starts) (length entries)) (k.row, k.next) entries (entries_after_row l entries) k.accepted

  -- the reader behind the row
  module _ (r : Reader) (moved : r ≡ reader_after l.reader (row_count (row_from l.reader.bytes.now l.heading l.reader.at))) where
    place_is : r ≡ record { bytes = l.reader.bytes; at = k.next }
    place_is = moved ∙ ap (λ q. reader_after l.reader (row_count q)) k.there

    pub begun_row : ∥ Begun l.reader.bytes.now l.reader.at l.heading l.rows l.used ∥₁ → ∥ Begun r.bytes.now r.at l.heading (l.rows + 1) (l.used + count) ∥₁
    begun_row begun =
        subst (λ (r : Reader). ∥ Begun r.bytes.now r.at l.heading (l.rows + 1) (l.used + count) ∥₁) (sym place_is)
        (subst (λ n. ∥ Begun l.reader.bytes.now k.next l.heading (l.rows + 1) (l.used + n) ∥₁) k.counts (begun_more l.reader.bytes.now l.heading l.reader.at l.rows l.used begun k.some_left k.row k.next k.there))

    loader_moved : ◌≡◌ {A = Stand} (record { reader = r; heading = l.heading; rows = l.rows + 1; used = l.used + count }) (updated (next_row l (length starts) (length entries)) l (after_row l))
    loader_moved =
        ap (λ (z : Reader). record { reader = z; heading = l.heading; rows = l.rows + 1; used = l.used + count }) place_is
        ∙ ap (λ n. record { reader = record { bytes = l.reader.bytes; at = k.next }; heading = l.heading; rows = l.rows + 1; used = l.used + n }) (sym k.counts)
        ∙ updated_ok (next_row l (length starts) (length entries)) (k.row, k.next) l (after_row l) k.accepted

    pub row_read : (table : List Entry) (place : ℕ) → place ≡ min l.used (length entries) → length table ≡ count → HoldsRow (row_from l.reader.bytes.now l.heading l.reader.at) table
        → RowRead l (record { reader = r; heading = l.heading; rows = l.rows + 1; used = l.used + count }) starts (set starts (l.rows + 1) (l.used + count)) entries (put_mid place (place + count - place) entries table)
    row_read table place is long held = record { loader = loader_moved; starts_are = start_put; entries_are = row_put table place is long held }

-- a row that is refused
pub none_read : (l : Stand) (starts : List ℕ) (entries : List Entry) (e : Fault) → next_row l (length starts) (length entries) ≡ Err e → RowRead l l starts starts entries entries
none_read l starts entries e is =
    let v = next_row l (length starts) (length entries) in
    record { loader = updated_err v e l (after_row l) is; starts_are = updated_err v e starts (starts_after_row l starts) is; entries_are = updated_err v e entries (entries_after_row l entries) is }
