use Rattle.std.proofs.Common.{ap, ◌∙◌, arith}
use Rattle.sources.specs.Meaning.{entry_at}
use Rattle.sources.proofs.Reading.{entry_step}
use Rattle.sources.proofs.row_entries.RowEntriesIterator.next.Goals as goal

pub returns-clause-steps : goal.returns-clause-steps
returns-clause-steps g c =
    let s = c.args.self.now in
    let m = g.S.Source.meaning s.source.now in
    let moved = c.in_ok-place.ensures.steps in
    entry_step m s.carrier s.places.start c.next.new.self.start c.entry.result
    (c.entry.ensures ∙ ap (entry_at m s.carrier) moved.1.1) (omega (arith, s.whole, moved)) (omega (arith, moved))
