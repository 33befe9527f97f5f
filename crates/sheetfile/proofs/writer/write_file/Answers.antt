use Rattle.std.proofs.Common.{arith}
use Rattle.sheetfile.proofs.Writing.{written_short}
use Rattle.sheetfile.proofs.writer.write_file.Goals as goal

pub returns-clause-long : goal.returns-clause-long
returns-clause-long g c =
    let short = written_short (g.S.Source.meaning c.args.source.now) (g.S.Source.sound c.args.source.now) c.requires in
    omega (arith, c.put_file.ensures.counted (omega (arith, short, c.new-output.ensures.count)), c.new-output.ensures.count, c.len.ensures)
