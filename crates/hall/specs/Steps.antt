-- What the private functions of the books answer and leave.
use Rattle.std.specs.Prelude.{ℕ, List, take, Ok, Err, Result}
use Rattle.sources.specs.Meaning.{Meaning, row_of}
use Rattle.refusals.specs.declared.Refusal.{Refusal}
use Rattle.auction.specs.declared.bidding.Bid.{Bid}
use Rattle.auction.specs.declared.bidding.Act.{Act}
use Rattle.auction.specs.declared.bidding.Counts.{Counts}
use Rattle.auction.specs.declared.bidding.Standing.{Standing}
use Rattle.auction.specs.declared.bidding.Standing.TheVariants.{Waiting, Bidding, Served, Out}
use Rattle.auction.specs.declared.bidding.Verdict.{Verdict}
use Rattle.auction.specs.declared.bidding.Verdict.TheVariants.{Out as GoesOut, Stale, Awarded}
use Rattle.auction.specs.Rules.{counted, counted_out, counted_stale, counted_award, bid_after}

-- What a carrier's standing and an act lead to, at these prices.
abbrev pub bid_from : Meaning → ℕ → List ℕ → ℕ → Standing → Act → Result Bid Refusal
bid_from m lanes prices i s act = bid_after lanes (take m.jobs prices) (row_of m i) s act

-- A bid that is begun or carried on is the carrier's standing after.
abbrev pub standing_after : Standing → Result Bid Refusal → Standing
standing_after s (Ok b) = Bidding b
standing_after s (Err e) = s

abbrev pub counts_after : Act → Counts → Result Bid Refusal → Counts
counts_after act n (Ok b) = counted act n
counts_after act n (Err e) = n

-- What the end of a bid makes of the carrier's standing; worth is what the best job is worth to it.
abbrev pub standing_ended : ℕ → Verdict → Standing
standing_ended worth GoesOut = Out
standing_ended worth Stale = Waiting
standing_ended worth (Awarded a) = Served (record { job = a.job; worth = worth })

abbrev pub counts_ended : Counts → Verdict → Counts
counts_ended n GoesOut = counted_out n
counts_ended n Stale = counted_stale n
counts_ended n (Awarded a) = counted_award n
