-- What the tables hold after a load.
use Rattle.std.specs.Prelude.{◌≡◌, ℕ, ◌+◌, List, map, length, take, Ok, Err, Result}
use Rattle.std.specs.Result.{result_map_both, result_unwrap_or}
use Rattle.refusals.specs.declared.Fault.{Fault}
use Rattle.numbers.specs.Writing.{over}
use Rattle.refusals.specs.Faults.{fault_of}
use Rattle.sources.specs.Meaning.{Meaning, empty_meaning}
use Rattle.sources.specs.Sheets.{fill_verdict, sheet_of}
use Rattle.sources.specs.Tables.{entries_of, entry_of, heading_of, starts_of}
use Rattle.sources.specs.declared.records.Entry.{Entry}
use Rattle.sources.specs.declared.records.Heading.{Heading}
use Rattle.sheetfile.specs.Layout.{Row, entries_in}
use Rattle.sheetfile.specs.Reading.{loaded}
use Rattle.sheetfile.specs.Steps.{updated}

-- The heading alone of what is loaded.
abbrev pub heading_answer : Result Meaning Fault → Result Heading Fault
heading_answer r = result_map_both heading_of (λ e. e) r

-- The table of starts after a load: it begins with the starts of the rows, and is as it was behind them.
abbrev pub starts_after : List ℕ → List ℕ → ℕ → List ℕ
starts_after bs starts room = updated (loaded bs (length starts) room) starts (λ m. over starts 0 (starts_of m.rows))

-- The table of entries after a load: it begins with the entries of all rows, and is as it was behind them.
abbrev pub entries_after : List ℕ → ℕ → List Entry → List Entry
entries_after bs starts entries = updated (loaded bs starts (length entries)) entries (λ m. over entries 0 (entries_of m.rows))

-- What the sheet over tables means, or why there is none: as filling says of the first starts, one for each carrier and one more.
abbrev pub sheet_in : Heading → List ℕ → List Entry → Result Meaning Fault
sheet_in h starts entries = let front = take (h.carriers + 1) starts in result_map_both (λ _. sheet_of h front entries) fault_of (fill_verdict h front entries)

-- What tables of one's own hold: the sheet over them, or the empty one.
abbrev pub sheet_held : Heading → List ℕ → List Entry → Meaning
sheet_held h starts entries = result_unwrap_or (sheet_in h starts entries) empty_meaning

-- How many entries a row has, in the stead of the row.
abbrev pub row_count : Result (Row × ℕ) Fault → Result (ℕ × ℕ) Fault
row_count r = result_map_both (λ x. (length x.0, x.1)) (λ e. e) r

-- The table begins with the entries of the row, as far as it reaches.
abbrev pub BeginsWith : List Entry → Row → Type 0
BeginsWith table row = take (length row) table ≡ take (length table) (map entry_of row)

-- The same of a row that was read.
abbrev pub HoldsRow : Result (Row × ℕ) Fault → List Entry → Type 0
HoldsRow (Err e) table = Unit {0}
HoldsRow (Ok (row, at)) table = BeginsWith table row

-- The tables begin with the first k rows of a meaning: where each of them starts and the last one ends, and the entries of all.
pub record HoldsRows (m : Meaning) (k : ℕ) (starts : List ℕ) (entries : List Entry) : Type 0 where
  pub starting : take (k + 1) starts ≡ starts_of (take k m.rows)
  pub listing : take (entries_in (take k m.rows)) entries ≡ entries_of (take k m.rows)
