use Rattle.std.proofs.Common.{◌≡◌, ℕ, ◌<◌, get_or, Some}
use Rattle.auction.specs.Tally.{Tally, standing_at}
use Rattle.auction.specs.declared.bidding.Standing.TheVariants.{Out}
use Rattle.pairing.specs.Pairs.{auctioned}
use Rattle.pairing.proofs.auctioning.hold_auction.Given as goal

-- so many standings are the tally's
abbrev pub invariant-loop-carrier : goal.invariant-loop-carrier
invariant-loop-carrier g l = (t : Tally) → auctioned (g.S.Source.meaning l.source) ≡ Some t → (k : ℕ) → k < l.carrier → get_or l.standings k Out ≡ standing_at t k
