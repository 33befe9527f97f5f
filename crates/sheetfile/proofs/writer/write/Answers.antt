use Rattle.std.proofs.Common.{◌≡◌, ◌≤◌, true, length, sym, ap, ◌∙◌, arith}
use Rattle.sources.specs.Sheets.{within_limits}
use Rattle.sources.specs.Tables.{heading_of}
use Rattle.sheetfile.specs.Writing.{written}
use Rattle.sheetfile.proofs.Again.{written_loads}
use Rattle.sheetfile.proofs.writer.write.Goals as goal

pub returns-clause-loadable : goal.returns-clause-loadable
returns-clause-loadable g c =
    let m = g.S.Source.meaning c.args.source.now in
    let is : within_limits (heading_of (g.S.Source.meaning c.args.source.now)) ≡ true = ap within_limits (sym c.heading_of.ensures) ∙ sym c.within_limits.ensures ∙ c.if-not-within_limits.false in
    let room : length (written (g.S.Source.meaning c.args.source.now)) ≤ length c.args.out.now = omega (arith, c.write_file-len.ensures.long) in
    written_loads m (g.S.Source.sound c.args.source.now) is c.args.out.now c.write_file.new.out c.write_file.result c.write_file.ensures.long (omega (arith, room, c.write_file.ensures.long)) (c.write_file.ensures.after room)
