use Rattle.std.proofs.Common.{◌≡◌, map, take}
use Rattle.std.specs.List.{flat_map}
use Rattle.outputs.specs.Puts.{Puts}
use Rattle.sheetfile.specs.Layout.{entries_in, row_bytes}
use Rattle.sheetfile.specs.Writing.{nonzero}
use Rattle.sheetfile.proofs.writer.put_file.Given as goal

abbrev pub invariant-loop-i : goal.invariant-loop-i
invariant-loop-i g l =
    Puts l.initial.output l.output (flat_map row_bytes (map nonzero (take l.i (g.S.Source.meaning l.source).rows)))
    × (l.total ≡ entries_in (map nonzero (take l.i (g.S.Source.meaning l.source).rows)))
