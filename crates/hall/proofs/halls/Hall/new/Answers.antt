use Rattle.auction.proofs.Reaching.{reached_none}
use Rattle.hall.proofs.halls.Hall.new.Goals as goal

pub invariant_of-result-clause-reached : goal.invariant_of-result-clause-reached
invariant_of-result-clause-reached g c = reached_none (g.S.Source.meaning c.args.source)
