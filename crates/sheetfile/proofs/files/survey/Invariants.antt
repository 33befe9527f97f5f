use Rattle.std.proofs.Common.{◌≡◌, ◌-◌, ◌≤◌, List}
use Rattle.sheetfile.specs.Layout.{Row, entries_in}
use Rattle.sheetfile.specs.Reading.{rows_from}
use Rattle.sheetfile.specs.Steps.{prefixed}
use Rattle.sheetfile.proofs.files.survey.Given as goal

-- some rows were read, and those that are left make the sheet with them
abbrev pub invariant-loop-i : goal.invariant-loop-i
invariant-loop-i l =
    (done : List Row) × (l.used ≡ entries_in done) × (l.used ≤ l.room) × (l.reader.bytes.now ≡ l.bytes)
    × (rows_from l.bytes l.heading l.room l.heading.carriers 0 l.initial.reader.at ≡ prefixed done (rows_from l.bytes l.heading l.room (l.heading.carriers - l._i) l.used l.reader.at))
