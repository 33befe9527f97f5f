use Rattle.std.proofs.Common.{◌≡◌, take}
use Rattle.rings.specs.Held.{held}
use Rattle.auction.specs.Standings.{if_waiting, if_bidding}
use Rattle.auction.specs.Runs.{gathered}
use Rattle.hall.proofs.books.Books.begin.Given as goal

-- The carriers met so far are in line or in flight.
abbrev pub invariant-loop-carrier : goal.invariant-loop-carrier
invariant-loop-carrier g l =
    record {
      waits : held l.queues.line ≡ gathered if_waiting 0 (take l.carrier l.standing-items);
      bids : held l.queues.flight ≡ gathered (if_bidding (g.S.Source.meaning l.source) l.self.lanes) 0 (take l.carrier l.standing-items);
    }
