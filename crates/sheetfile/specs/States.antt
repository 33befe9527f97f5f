-- What each call makes of a loader and of the tables that it is lent.
use Rattle.std.specs.Prelude.{◌≡◌, ℕ, ◌+◌, ◌-◌, ◌<◌, ◌≤◌, cond, List, map, length, Ok, Err, IfOk, IsOkAnd, Result, nat_lt, slice_set}
use Rattle.refusals.specs.Faults.{fault_of}
use Rattle.refusals.specs.declared.Fault.{Fault}
use Rattle.refusals.specs.declared.Refusal.TheVariants.{NoRowLeft, RowsMissing, TooShort}
use Rattle.sources.specs.Meaning.{Meaning, row_of}
use Rattle.sources.specs.Tables.{entry_of, heading_of}
use Rattle.sources.specs.declared.records.Entry.{Entry}
use Rattle.sources.specs.declared.records.Heading.{Heading}
use Rattle.sheetfile.specs.Layout.{Row, SheetFile}
use Rattle.sheetfile.specs.Reading.{closed_at, heading_in, row_in}
use Rattle.sheetfile.specs.Steps.{and_then, room_for, updated}
use Rattle.sheetfile.specs.Tables.{HoldsRows, sheet_in}
use Rattle.numbers.specs.Writing.{over}
use Rattle.sheetfile.specs.declared.loader.Bare.{Bare}
use Rattle.sheetfile.specs.declared.loader.Closed.{Closed}
use Rattle.sheetfile.specs.declared.loader.Headed.{Headed}
use Rattle.sheetfile.specs.declared.loader.Refused.{Refused}
use Rattle.sheetfile.specs.declared.reader.Reader.{Reader}

-- Where a headed loader stands: its reader, the heading, and how many rows with how many entries it has read.
pub record Stand : Type 0 where
  pub reader : Reader
  pub heading : Heading
  pub rows : ℕ
  pub used : ℕ

abbrev pub stand : Headed → Stand
stand l = record { reader = l.reader; heading = l.heading; rows = l.rows; used = l.used }

-- ---- The heading is read by a bare loader.

-- The heading that a bare loader reads, for a table of so many starts, and the place behind it.
abbrev pub first_heading : Bare → ℕ → Result (Heading × ℕ) Fault
first_heading l starts = heading_in l.bytes.now starts

-- Where a loader stands that has read a heading and no row yet, or the bare loader as it was, with the refusal.
abbrev pub headed_by : Bare → Result (Heading × ℕ) Fault → Result Stand (Refused Bare)
headed_by l (Err e) = Err (record { loader = l; fault = e })
headed_by l (Ok (h, at)) = Ok (record { reader = record { bytes = l.bytes; at = at }; heading = h; rows = 0; used = 0 })

-- ---- A row is read by a headed loader.

-- The next row and the place behind it: 7 before any byte if every announced row was read; the row's own refusals; 12 if
-- a table is too short for it.
abbrev pub next_row : Stand → ℕ → ℕ → Result (Row × ℕ) Fault
next_row l starts room =
    cond (nat_lt l.rows l.heading.carriers)
    (and_then (row_in l.reader.bytes.now l.heading room l.used l.reader.at) (λ r. room_for (fault_of TooShort) (l.rows + 2) starts r))
    (Err (fault_of NoRowLeft))

-- Where a loader stands behind a row.
abbrev pub after_row : Stand → Row × ℕ → Stand
after_row l r = record { reader = record { bytes = l.reader.bytes; at = r.1 }; heading = l.heading; rows = l.rows + 1; used = l.used + length r.0 }

-- The tables after a row: the place where it ends is the next start, and its entries follow those before it.
abbrev pub starts_after_row : Stand → List ℕ → Row × ℕ → List ℕ
starts_after_row l starts r = slice_set starts (l.rows + 1) (l.used + length r.0)

abbrev pub entries_after_row : Stand → List Entry → Row × ℕ → List Entry
entries_after_row l entries r = over entries l.used (map entry_of r.0)

-- What reading the next row makes of a loader and of the tables that it is lent. Where it is refused, all are as they were.
pub record RowRead (l l' : Stand) (starts starts' : List ℕ) (entries entries' : List Entry) : Type 0 where
  pub loader : l' ≡ updated (next_row l (length starts) (length entries)) l (after_row l)
  pub starts_are : starts' ≡ updated (next_row l (length starts) (length entries)) starts (starts_after_row l starts)
  pub entries_are : entries' ≡ updated (next_row l (length starts) (length entries)) entries (entries_after_row l entries)

-- ---- A headed loader is closed.

-- 8 before any byte if announced rows are missing; then what the closing total tells.
abbrev pub closing : Stand → Result (Unit {0}) Fault
closing l = cond (nat_lt l.rows l.heading.carriers) (Err (fault_of RowsMissing)) (closed_at l.reader.bytes.now l.used l.reader.at)

-- A closed loader with the heading, or the headed loader as it was, with the refusal.
abbrev pub closed_by : Headed → Result (Unit {0}) Fault → Result Closed (Refused Headed)
closed_by l (Err e) = Err (record { loader = l; fault = e })
closed_by l (Ok u) = Ok (record { heading = l.heading })

-- ---- What a loader makes of a sheet file.

-- The rows are read in order: the next one, where the tables have room for it. They then hold it behind those before it, and so
-- one row more than they held.
pub record ReadsInOrder (m : Meaning) (l : Stand) (starts : List ℕ) (entries : List Entry) (r : Result (Unit {0}) Fault) (starts' : List ℕ) (entries' : List Entry) : Type 0 where
  pub every : l.rows < m.carriers → l.rows + 2 ≤ length starts → length (row_of m l.rows) ≤ length entries - l.used → r ≡ Ok tt
  pub row : r ≡ Ok tt → (starts' ≡ slice_set starts (l.rows + 1) (l.used + length (row_of m l.rows))) × (entries' ≡ over entries l.used (map entry_of (row_of m l.rows)))
  pub held : r ≡ Ok tt → HoldsRows m l.rows starts entries → HoldsRows m (l.rows + 1) starts' entries'

-- A loader closes exactly behind all rows of a sheet file, and tells its heading. The sheet over tables that hold these rows is then
-- accepted, and means the file.
pub record ClosesExactly (bytes : List ℕ) (rows : ℕ) (r : Result Closed (Refused Headed)) : Type 0 where
  pub every : (m : Meaning) → SheetFile bytes m → rows ≡ m.carriers → IsOkAnd r (λ c. c.heading ≡ heading_of m)
  pub only : IfOk r (λ c. (m : Meaning) × SheetFile bytes m × (rows ≡ m.carriers) × (c.heading ≡ heading_of m))
  pub filled : (m : Meaning) (starts : List ℕ) (entries : List Entry) → SheetFile bytes m → HoldsRows m rows starts entries
      → IfOk r (λ c. sheet_in c.heading starts entries ≡ Ok m)
