use Rattle.hall.specs.InBooks.{tally_of}
use Rattle.auction.proofs.Reaching.{reached_laws}
use Rattle.hall.proofs.halls.Hall.started.Goals as goal

pub returns-clause-laws : goal.returns-clause-laws
returns-clause-laws g c =
    let hall = c.args.self.now in reached_laws (g.S.Source.meaning hall.source) (g.S.Source.sound hall.source) (tally_of hall.books) hall.reached
