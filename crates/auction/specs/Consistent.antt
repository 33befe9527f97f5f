-- What holds of every tally that calls lead to, as far as it needs no row of the source. No count can pass 64 bits because of it.
use Rattle.std.specs.Prelude.{◌≡◌, ℕ, ◌+◌, ◌-◌, ◌*◌, ◌≤◌, length, None, sum, count_by}
use Rattle.auction.specs.Standings.{is_bidding, is_out, holds_job, StandingSound, is_risen}
use Rattle.auction.specs.Tally.{Tally, price_at, holder_at, standing_at, is_holder}
use Rattle.sources.specs.Limits.{most_carriers, most_jobs, highest_ceiling}
use Rattle.auction.specs.Limits.{highest_step, most_lanes}

-- What start has checked.
pub record Limits (carriers jobs ceiling step lanes : ℕ) : Type 0 where
  pub few_carriers : carriers ≤ most_carriers
  pub few_jobs : jobs ≤ most_jobs
  pub low_ceiling : ceiling ≤ highest_ceiling
  pub some_step : 1 ≤ step
  pub low_step : step ≤ highest_step
  pub some_lanes : 1 ≤ lanes
  pub few_lanes : lanes ≤ most_lanes

pub record Consistent (carriers jobs ceiling : ℕ) (t : Tally) : Type 0 where
  pub limits : Limits carriers jobs ceiling t.step t.lanes
  pub prices_sized : length t.prices ≡ jobs
  pub holders_sized : length t.holders ≡ jobs
  pub standings_sized : length t.standings ≡ carriers
  pub sound : (i : ℕ) → StandingSound jobs ceiling (standing_at t i)
  -- Carrier i is the holder of job j exactly if it is served with it.
  pub matched : (i j : ℕ) → is_holder i (holder_at t j) ≡ holds_job j (standing_at t i)
  pub unheld : (j : ℕ) → holder_at t j ≡ None → price_at t j ≡ 0
  pub low_prices : (j : ℕ) → price_at t j ≤ ceiling + t.step
  -- Each award raised a price.
  pub raised : t.counts.awards ≤ sum t.prices
  pub balanced : t.counts.summonses ≡ t.counts.awards + t.counts.stales + t.counts.outs + count_by is_bidding t.standings
  -- Who is out stays out.
  pub outs_stay : t.counts.outs ≡ count_by is_out t.standings
  -- A bid turns stale only if its best job's price has risen, and an award raises it for all others at most.
  pub few_stales : t.counts.stales + count_by (is_risen t.prices) t.standings ≤ (carriers - 1) * t.counts.awards
