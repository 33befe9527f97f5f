use Rattle.std.proofs.Common.{◌≡◌, ◌-◌, length}
use Rattle.sheetfile.specs.Layout.{Row}
use Rattle.sheetfile.specs.Reading.{entries_from}
use Rattle.sheetfile.specs.Steps.{prefixed}
use Rattle.sheetfile.specs.Tables.{BeginsWith}
use Rattle.sheetfile.proofs.reader.Reader.row.Given as goal

-- some entries were read, and those that are left make the row with them
abbrev pub invariant-loop-k : goal.invariant-loop-k
invariant-loop-k l =
    (done : Row) × (length done ≡ l.k) × BeginsWith l.table done × (l.ahead.bytes ≡ l.self.bytes)
    × (entries_from l.self.bytes.now l.heading l.count 0 l.initial.ahead.at ≡ prefixed done (entries_from l.self.bytes.now l.heading (l.count - l.k) l.low l.ahead.at))
