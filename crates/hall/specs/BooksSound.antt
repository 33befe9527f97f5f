-- What the books' fields keep true: the tally that they hold is consistent, so that no price and no count passes 64 bits.
use Rattle.std.specs.Prelude.{◌≡◌, ℕ, List, length, take, Option}
use Rattle.sources.specs.Limits.{most_carriers, most_jobs}
use Rattle.sources.specs.declared.records.Heading.{Heading}
use Rattle.auction.specs.declared.bidding.Counts.{Counts}
use Rattle.auction.specs.declared.bidding.Standing.{Standing}
use Rattle.auction.specs.Tally.{Tally}
use Rattle.auction.specs.Consistent.{Consistent}

-- The tables are longer than the tally's lists: the first places are those of the jobs and of the carriers.
abbrev pub tally_held : Heading → ℕ → ℕ → List ℕ → List (Option ℕ) → List Standing → Counts → Tally
tally_held noted step lanes prices holders standings counts = record {
  step = step;
  lanes = lanes;
  prices = take noted.jobs prices;
  holders = take noted.jobs holders;
  standings = take noted.carriers standings;
  counts = counts;
}

pub record BooksSound (noted : Heading) (step lanes : ℕ) (prices : List ℕ) (holders : List (Option ℕ)) (standings : List Standing) (counts : Counts) : Type 0 where
  pub prices_long : length prices ≡ most_jobs
  pub holders_long : length holders ≡ most_jobs
  pub standings_long : length standings ≡ most_carriers
  pub consistent : Consistent noted.carriers noted.jobs noted.ceiling (tally_held noted step lanes prices holders standings counts)
