use Rattle.std.proofs.Common.{◌≡◌, ◌+◌, ◌-◌, ◌≤◌, List, length, take}
use Rattle.sources.specs.Tables.{entries_of, starts_of}
use Rattle.sheetfile.specs.Layout.{Row, entries_in}
use Rattle.sheetfile.specs.Reading.{rows_from}
use Rattle.sheetfile.specs.Steps.{prefixed}
use Rattle.sheetfile.proofs.files.load_over.Given as goal

-- some rows were read and stand in the tables, and those that are left make the sheet with them
abbrev pub invariant-loop-i : goal.invariant-loop-i
invariant-loop-i l =
    (done : List Row) × (l.used ≡ entries_in done) × (l.used ≤ l.room) × (l.reader.bytes.now ≡ l.bytes)
    × (rows_from l.bytes l.heading l.room l.heading.carriers 0 l.initial.reader.at ≡ prefixed done (rows_from l.bytes l.heading l.room (l.heading.carriers - l.i) l.used l.reader.at))
    × (l.heading.carriers + 1 ≤ length l.starts) × (take (l.i + 1) l.starts ≡ starts_of done) × (take l.used l.entries ≡ entries_of done)
