-- What the entries of a look come to among themselves, and beside the bid so far.
use Rattle.std.specs.Prelude.{ℕ, ◌+◌, ◌-◌, ◌^◌, max, cond, ℤ, negsuc, ◌==◌, Some, None, Option}
use Rattle.auction.specs.declared.bidding.Best.{Best}
use Rattle.auction.specs.declared.bidding.Bid.{Bid}
use Rattle.auction.specs.Bids.{beats, natural}

-- The least number of 64 bits with a sign.
abbrev pub least : ℤ
least = negsuc (2 ^ 63 - 1)

abbrev pub best_in : ℤ → ℕ → ℕ → Option Best
best_in net job worth = cond (worth == 0) None (Some (record { net = net; job = job; worth = worth }))

abbrev pub merged_two : Bid → Bid → Option Best → Best → Bid
merged_two b s None new = record { looked = b.looked + s.looked; best = Some new; runner_up = max b.runner_up s.runner_up }
merged_two b s (Some old) new = cond (beats new old)
    (record { looked = b.looked + s.looked; best = Some new; runner_up = max (max b.runner_up s.runner_up) (natural old.net) })
    (record { looked = b.looked + s.looked; best = Some old; runner_up = max (max b.runner_up s.runner_up) (natural new.net) })

abbrev pub merged_best : Bid → Bid → Option Best → Bid
merged_best b s None = record { looked = b.looked + s.looked; best = b.best; runner_up = max b.runner_up s.runner_up }
merged_best b s (Some new) = merged_two b s b.best new

-- A bid, and one of the entries that follow: the better best of the two is the best.
abbrev pub merged : Bid → Bid → Bid
merged b s = merged_best b s s.best

-- What so many entries come to as a bid of their own; worth 0 says that none of them was more than 0 worth.
abbrev pub bid_in : ℕ → ℤ → ℕ → ℕ → ℤ → Bid
bid_in n net job worth runner_up = record { looked = n; best = best_in net job worth; runner_up = natural runner_up }
