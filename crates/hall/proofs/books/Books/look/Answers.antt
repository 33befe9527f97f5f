use Rattle.hall.proofs.Looking.{looks_in}
use Rattle.hall.proofs.books.Books.look.Goals as goal

pub returns-clause-looks : goal.returns-clause-looks
returns-clause-looks g c =
    looks_in (g.S.Source.meaning c.args.source.now) c.args.carrier c.in_ok-call_on.field-0 c.args.self.now c.call_on.new.self c.requires
    c.in_ok-call_on.ensures.answered c.in_ok-call_on.ensures.tallied
