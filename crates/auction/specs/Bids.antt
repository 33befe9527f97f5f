-- How a bid is gathered, entry by entry, each at the price of the moment, and how it is judged.
use Rattle.std.specs.Prelude.{ℕ, ◌+◌, ◌-◌, max, Bool, cond, ◌&&◌, ◌||◌, List, take, drop, ℤ, pos, negsuc, ◌-ℤ◌, Some, None, fold, Option, ◌==◌, int_le, int_lt, nat_le, nat_lt, slice_index, slice_index_or}
use Rattle.auction.specs.declared.bidding.Best.{Best}
use Rattle.auction.specs.declared.bidding.Bid.{Bid}
use Rattle.auction.specs.declared.bidding.Verdict.{Verdict}
use Rattle.auction.specs.declared.bidding.Verdict.TheVariants.{Out, Stale, Awarded}

-- 0 if negative.
abbrev pub natural : ℤ → ℕ
natural (pos n) = n
natural (negsuc n) = 0

-- A bid with nothing looked at.
abbrev pub new_bid : Bid
new_bid = record { looked = 0; best = None; runner_up = 0 }

-- The larger net is better, and of equal nets the smaller job.
abbrev pub beats : Best → Best → Bool
beats new old = int_lt old.net new.net || (int_le old.net new.net && nat_lt new.job old.job)

-- One more net: the better of it and the best so far is the best, and the runner-up is the largest of the others.
abbrev pub ranked : Bid → Option Best → Best → Bid
ranked b None new = record { looked = b.looked + 1; best = Some new; runner_up = b.runner_up }
ranked b (Some old) new = cond (beats new old)
    (record { looked = b.looked + 1; best = Some new; runner_up = max b.runner_up (natural old.net) })
    (record { looked = b.looked + 1; best = Some old; runner_up = max b.runner_up (natural new.net) })

-- One more entry is looked at, at its job's price. An entry of worth 0 is skipped.
abbrev pub weighed_at : ℕ → Bid → ℕ × ℕ → Bid
weighed_at price b e = cond (e.1 == 0)
    (record { looked = b.looked + 1; best = b.best; runner_up = b.runner_up })
    (ranked b b.best (record { net = pos e.1 -ℤ pos price; job = e.0; worth = e.1 }))

unfoldable pub weighed : List ℕ → Bid → ℕ × ℕ → Bid
weighed prices b e = weighed_at (slice_index prices e.0) b e

-- The next entries of the row, as many as there are lanes, or as many as are left.
abbrev pub looked_on : ℕ → List ℕ → List (ℕ × ℕ) → Bid → Bid
looked_on lanes prices row b = fold (weighed prices) b (take lanes (drop b.looked row))

-- What is bid for the best job.
abbrev pub offer : ℕ → ℕ → Best → ℕ
offer step r x = (x.worth - r) + step

abbrev pub judged_best : ℕ → List ℕ → List (Option ℕ) → ℕ → Option Best → Verdict
judged_best step prices holders r None = Out
judged_best step prices holders r (Some x) = cond (int_lt (pos 0) x.net)
    (cond (nat_le (offer step r x) (slice_index prices x.job)) Stale
    (Awarded (record { job = x.job; price = offer step r x; displaced = slice_index_or holders x.job None })))
    Out

-- What becomes of a bid whose row is fully looked at, at the prices and with the holders now.
abbrev pub judged : ℕ → List ℕ → List (Option ℕ) → Bid → Verdict
judged step prices holders b = judged_best step prices holders b.runner_up b.best

abbrev pub best_worth : Option Best → ℕ
best_worth None = 0
best_worth (Some x) = x.worth
