use Rattle.std.proofs.Common.{arith}
use Rattle.hall.proofs.RunSteps.{few_entries}
use Rattle.hall.proofs.books.Books.summon_first.Goals as goal

pub looks_for-looks_left-requires-clause-short : goal.looks_for-looks_left-requires-clause-short
looks_for-looks_left-requires-clause-short g c =
    omega (arith, c.row_length.ensures, few_entries (g.S.Source.meaning c.args.source.now) (g.S.Source.sound c.args.source.now) c.args.self.now c.requires.noted c.args.carrier)
