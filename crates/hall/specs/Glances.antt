-- What a glance is after one more entry, and when the best that it began with is the best after it.
use Rattle.std.specs.Prelude.{ℕ, ◌+◌, ◌-◌, ◌%◌, ◌^◌, Bool, false, cond, ◌&&◌, ◌||◌, ℤ, pos, List, Some, None, Option, int_lt, nat_lt, slice_index}
use Rattle.std.specs.Int.{int_max, cast_signed, w64}
use Rattle.auction.specs.declared.bidding.Best.{Best}
use Rattle.auction.specs.Bids.{natural}
use Rattle.hall.specs.declared.books.glance.Glance.{Glance}

-- Worth minus price, in 64 bits.
abbrev pub net_in : ℕ → ℕ → ℤ
net_in worth price = cast_signed w64 ((worth + (2 ^ 64 - price)) % 2 ^ 64)

abbrev pub price_held : List ℕ → ℕ → ℕ
price_held prices job = slice_index prices (job % 256)

abbrev pub glanced_at : ℤ → ℕ → Glance → Glance
glanced_at net job s = record {
  prices = s.prices;
  net = cond (int_lt s.net net) net s.net;
  job = cond (int_lt s.net net) job s.job;
  runner_up = int_max s.runner_up (cond (int_lt s.net net) s.net net);
}

abbrev pub glanced : Glance → ℕ × ℕ → Glance
glanced s e = glanced_at (net_in e.1 (price_held s.prices.now e.0)) (e.0 % 256) s

-- The best net, 0 if there is none above it.
abbrev pub top_net : Option Best → ℕ
top_net None = 0
top_net (Some x) = natural x.net

-- The entry's job is above this one.
abbrev pub follows : ℕ → Option (ℕ × ℕ) → Bool
follows job None = false
follows job (Some e) = nat_lt job e.0

-- A best with a net above 0, at a job below that of this entry.
abbrev pub wins_ties : Option (ℕ × ℕ) → Option Best → Bool
wins_ties next None = false
wins_ties next (Some x) = int_lt (pos 0) x.net && follows x.job next

-- Later entries, which begin with this one, have no better net than the best: none has an equal one either, or the best wins ties.
abbrev pub lasts : Glance → Option (ℕ × ℕ) → Option Best → Bool
lasts s next o = int_lt s.runner_up s.net || wins_ties next o
