-- An entry weighed at the price in the books' table.
use Rattle.std.proofs.Common.{◌≡◌, ℕ, ◌<◌, List, get_or, take, sym, ap}
use Rattle.std.proofs.lemmas.List.{get_or-take}
use Rattle.auction.specs.declared.bidding.Bid.{Bid}
use Rattle.auction.specs.Bids.{weighed, weighed_at}

pub weighed_cut : (n : ℕ) (ps : List ℕ) (b : Bid) (job worth : ℕ) → job < n → weighed_at (get_or ps job 0) b (job, worth) ≡ weighed (take n ps) b (job, worth)
unfolding weighed
weighed_cut n ps b job worth h = ap (λ p. weighed_at p b (job, worth)) (sym (get_or-take n ps job 0 h))
