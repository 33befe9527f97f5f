use Rattle.std.proofs.Common.{◌≡◌, ℕ, ◌-◌, ◌<◌, ◌≤◌, ◌⊎◌, length, get_or, take, drop, fold}
use Rattle.sources.specs.Meaning.{row_of}
use Rattle.auction.specs.Bids.{new_bid, weighed}
use Rattle.hall.specs.Seeing.{bid_in}
use Rattle.hall.proofs.books.calls.look_closely.Given as goal

-- What was seen is what the entries up to here come to among themselves, and its job is below those that follow.
abbrev pub invariant-loop-place : goal.invariant-loop-place
invariant-loop-place g l =
    let m = g.S.Source.meaning l.source in
    let ps = take m.jobs l.prices in
    let row = row_of m l.carrier in
    let s = l.seen in
    record {
      folded : bid_in (l.place - l.bid.looked) s.net s.job s.worth s.runner_up ≡ fold (weighed ps) new_bid (take (l.place - l.bid.looked) (drop l.bid.looked row));
      rises : (k : ℕ) → l.place ≤ k → k < length row → (s.worth ≡ 0) ⊎ (s.job < (get_or row k (0, 0)).0);
    }
