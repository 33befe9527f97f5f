-- The state of an auction.
use Rattle.std.specs.Prelude.{ℕ, Bool, false, List, Some, None, sum_by, Option, ◌==◌, slice_index, slice_index_or}
use Rattle.auction.specs.declared.bidding.Counts.{Counts}
use Rattle.auction.specs.declared.bidding.Standing.{Standing}
use Rattle.auction.specs.declared.bidding.Standing.TheVariants.{Out}
use Rattle.auction.specs.Standings.{worth_served}

pub record Tally : Type 0 where
  pub step : ℕ
  pub lanes : ℕ
  -- One a job.
  pub prices : List ℕ
  pub holders : List (Option ℕ)
  -- One a carrier.
  pub standings : List Standing
  pub counts : Counts

abbrev pub price_at : Tally → ℕ → ℕ
price_at t j = slice_index t.prices j

abbrev pub holder_at : Tally → ℕ → Option ℕ
holder_at t j = slice_index_or t.holders j None

abbrev pub standing_at : Tally → ℕ → Standing
standing_at t i = slice_index_or t.standings i Out

-- The holder is carrier i.
abbrev pub is_holder : ℕ → Option ℕ → Bool
is_holder i None = false
is_holder i (Some k) = k == i

-- The sum of what the served carriers' jobs are worth to them.
abbrev pub total_worth : Tally → ℕ
total_worth t = sum_by worth_served t.standings
