use Rattle.std.specs.List.{flat_map}
use Rattle.outputs.specs.Puts.{Puts}
use Rattle.sheetfile.specs.Writing.{nonzero_bytes}
use Rattle.sheetfile.proofs.writer.put_row.Given as goal

-- the entries so far are put
abbrev pub invariant-loop-job : goal.invariant-loop-job
invariant-loop-job g l = Puts l.initial.output l.output (flat_map nonzero_bytes l.yielded)
