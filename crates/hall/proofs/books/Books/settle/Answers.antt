use Rattle.std.proofs.Common.{rules}
use Rattle.hall.proofs.Settling.{settles_known, settles_bidding, settled_answer, settled_tally}
use Rattle.hall.proofs.books.Books.settle.Goals as goal

pub end-requires : goal.end-requires
end-requires g c = record {
  known = settles_known (g.S.Source.meaning c.args.source.now) c.args.carrier c.in_ok-bid.bid c.args.self.now c.call_on.new.self c.requires c.in_ok-bid.ensures.noted
      c.in_ok-bid.ensures.answered c.in_ok-bid.ensures.tallied;
  bidding = settles_bidding (g.S.Source.meaning c.args.source.now) c.args.carrier c.in_ok-bid.bid c.args.self.now c.call_on.new.self c.requires c.in_ok-bid.ensures.noted
      c.in_ok-bid.ensures.answered c.in_ok-bid.ensures.tallied;
}

pub returns-clause-ruled : goal.returns-clause-ruled
returns-clause-ruled g c = record {
  answered = settled_answer (g.S.Source.meaning c.args.source.now) c.args.carrier c.in_ok-bid.bid c.args.self.now c.call_on.new.self c.requires c.in_ok-bid.ensures.noted
      c.in_ok-bid.ensures.answered c.in_ok-bid.ensures.tallied c.end.result c.end.ensures.answered;
  tallied = settled_tally (g.S.Source.meaning c.args.source.now) c.args.carrier c.in_ok-bid.bid c.args.self.now c.call_on.new.self c.requires c.in_ok-bid.ensures.noted
      c.in_ok-bid.ensures.answered c.in_ok-bid.ensures.tallied c.end.new.self c.end.ensures.tallied;
  refused = search rules;
}
