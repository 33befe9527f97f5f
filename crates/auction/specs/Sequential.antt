-- The sequential (Gauss-Seidel) auction: one carrier after the other looks at its whole row at once, and bids. No looks, no lanes, and no other bids. A bid that no award came between is settled as it is there.
use Rattle.std.specs.Prelude.{◌≡◌, ℕ, ◌+◌, ◌-◌, false, List, ◌≤ℤ◌, ◌<ℤ◌, pos, Some, Ok}
use Rattle.std.specs.List.{AllByRecursion}
use Rattle.sources.specs.Meaning.{Meaning, row_of}
use Rattle.auction.specs.declared.calls.Call.{Call}
use Rattle.auction.specs.declared.bidding.Award.{Award}
use Rattle.auction.specs.declared.bidding.Best.{Best}
use Rattle.auction.specs.declared.bidding.Verdict.{Verdict}
use Rattle.auction.specs.declared.bidding.Verdict.TheVariants.{Out, Stale, Awarded}
use Rattle.auction.specs.Bids.{natural}
use Rattle.auction.specs.Looks.{nets_at, BestOf}
use Rattle.auction.specs.Standings.{is_bidding}
use Rattle.auction.specs.Tally.{Tally, price_at, holder_at, standing_at}
use Rattle.auction.specs.Rules.{settle_answer}
use Rattle.auction.specs.Calls.{tally_from, tally_after, has_start}

-- Of all nets of the row at the prices now the best is chosen, and of equal ones that of the smallest job. Its job's price rises by what it has over the largest of the others, or over 0, and by the step.
pub record BestAwarded (t : Tally) (row : List (ℕ × ℕ)) (a : Award) : Type 0 where
  pub best : Best
  pub runner_up : ℕ
  pub chosen : BestOf 0 runner_up (nets_at t.prices row) best
  pub gains : pos 0 <ℤ best.net
  pub job_is : a.job ≡ best.job
  pub price_is : a.price ≡ price_at t a.job + (natural best.net - runner_up) + t.step
  pub displaces : a.displaced ≡ holder_at t a.job

-- It goes out if no net is above 0, and is never stale.
abbrev pub Sequential : Tally → List (ℕ × ℕ) → Verdict → Type 0
Sequential t row Out = AllByRecursion (λ z. z.net ≤ℤ pos 0) (nets_at t.prices row)
Sequential t row Stale = ⊥
Sequential t row (Awarded a) = BestAwarded t row a

-- After some calls, carrier i has no open bid. If the calls behind them start nothing anew and make no award, then carrier i is settled as in the sequential auction, at the prices then, and so is not stale. The calls may be any, also those that a run is made of.
abbrev pub SettlesAlone : Meaning → Type 0
SettlesAlone m =
    (before behind : List Call) (i : ℕ) (t t' : Tally) (v : Verdict) → tally_after m before ≡ Some t → is_bidding (standing_at t i) ≡ false →
    has_start m behind ≡ false → tally_from m (Some t) behind ≡ Some t' → t'.counts.awards ≡ t.counts.awards → settle_answer i m (Some t') ≡ Ok v → Sequential t' (row_of m i) v
