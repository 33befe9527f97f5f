use Rattle.std.proofs.Common.{codes, arith, ap, sym, rules}
use Rattle.std.proofs.lemmas.Slice.Eq.{text_from_reads}
use Rattle.replaying.specs.Lines.{said_alone}
use Rattle.replaying.proofs.line.alone.Goals as goal

pub returns-in-counts : goal.returns-in-counts
returns-in-counts c = ap said_alone (sym (text_from_reads c.args.word.now (codes "counts") (omega arith) (search rules)))
