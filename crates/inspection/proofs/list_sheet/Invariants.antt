use Rattle.std.proofs.Common.{◌≡◌, ◌++◌, take, string_bytes}
use Rattle.sources.specs.OfSheet.{sheet_meaning}
use Rattle.sheetfile.specs.Layout.{entries_in}
use Rattle.inspection.specs.Listing.{row_lines}
use Rattle.inspection.proofs.list_sheet.Given as goal

-- the lines of so many carriers are in the text
abbrev pub invariant-loop-i : goal.invariant-loop-i
invariant-loop-i l =
    (l.count ≡ entries_in (take l.i (sheet_meaning l.sheet).rows))
    × (string_bytes l.text ≡ string_bytes l.initial.text ++ row_lines 0 (take l.i (sheet_meaning l.sheet).rows))
