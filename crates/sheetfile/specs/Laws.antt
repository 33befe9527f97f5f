-- What loading and writing promise, in terms of the layout.
use Rattle.std.specs.Prelude.{◌≡◌, ℕ, ◌≤◌, List, length, take, Ok, Err, Result}
use Rattle.refusals.specs.declared.Fault.{Fault}
use Rattle.refusals.specs.declared.Refusal.{Refusal}
use Rattle.sources.specs.Meaning.{Meaning}
use Rattle.sources.specs.Tables.{entries_of, heading_of, starts_of}
use Rattle.sources.specs.declared.records.Entry.{Entry}
use Rattle.sources.specs.declared.records.Heading.{Heading}
use Rattle.sheetfile.specs.Limits.{most_bytes, most_entries}
use Rattle.sheetfile.specs.Layout.{LongEnough, SheetFile, entries_in}
use Rattle.sheetfile.specs.Reading.{loaded}
use Rattle.sheetfile.specs.Tables.{sheet_in}
use Rattle.numbers.specs.Writing.{over}
use Rattle.sheetfile.specs.Writing.{without_zeros}

-- A load accepts exactly the sheet files for which the tables are long enough. The answer is then their heading, and the
-- tables hold their rows, so that the sheet over them means the file. A refused load leaves the tables as they were.
pub record LoadsExactly (bytes starts : List ℕ) (entries : List Entry) (r : Result Heading Fault) (starts' : List ℕ) (entries' : List Entry) : Type 0 where
  pub every : (m : Meaning) → SheetFile bytes m → LongEnough m (length starts) (length entries)
      → (r ≡ Ok (heading_of m)) × (starts' ≡ over starts 0 (starts_of m.rows)) × (entries' ≡ over entries 0 (entries_of m.rows))
  pub only : (h : Heading) → r ≡ Ok h → (m : Meaning) × SheetFile bytes m × LongEnough m (length starts) (length entries) × (h ≡ heading_of m) × (sheet_in h starts' entries' ≡ Ok m)
  pub refused : (e : Fault) → r ≡ Err e → (starts' ≡ starts) × (entries' ≡ entries)

-- Every sheet file within the limits of the programs is loaded, and the sheet over the tables means it.
abbrev pub LoadsEveryWithin : List ℕ → Result Heading Fault → List ℕ → List Entry → Type 0
LoadsEveryWithin bytes r starts entries =
    (m : Meaning) → SheetFile bytes m → length bytes ≤ most_bytes → entries_in m.rows ≤ most_entries → (r ≡ Ok (heading_of m)) × (sheet_in (heading_of m) starts entries ≡ Ok m)

-- What was written of a source is the sheet file of that source without its zero entries, so that a load accepts it. Of a
-- source that means a sheet file, that very file was written.
pub record WritesLoadable (m : Meaning) (r : Result ℕ Refusal) (out : List ℕ) : Type 0 where
  pub file : (n : ℕ) → r ≡ Ok n → SheetFile (take n out) (without_zeros m)
  pub loads : (n starts room : ℕ) → r ≡ Ok n → LongEnough (without_zeros m) starts room → loaded (take n out) starts room ≡ Ok (without_zeros m)
  pub again : (n : ℕ) (bytes : List ℕ) → r ≡ Ok n → SheetFile bytes m → take n out ≡ bytes
