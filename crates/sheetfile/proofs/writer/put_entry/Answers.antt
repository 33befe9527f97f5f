use Rattle.std.proofs.Common.{sym}
use Rattle.outputs.proofs.Puts.{puts_same, puts_then}
use Rattle.sheetfile.proofs.Writing.{part_some}
use Rattle.sheetfile.proofs.writer.put_entry.Goals as goal

pub returns-then-worth-gt0 : goal.returns-then-worth-gt0
returns-then-worth-gt0 c = puts_same (sym (part_some (c.args.job, c.args.worth) c.if-worth-gt0.true)) (puts_then c.put_number.ensures c.put_number-then-worth-gt0.ensures)
