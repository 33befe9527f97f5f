-- The invariant of the auction: the tally is consistent, and each standing fits the carrier's row at the prices now.
use Rattle.std.proofs.Common.{◌≡◌, ℕ, ◌+◌, ◌<◌, ◌≤◌, List, length, get_or, Some, None, Option}
use borrow.Author.Differences.{up, down}
use Rattle.sources.specs.Meaning.{Meaning, row_of, worth_in}
use Rattle.auction.specs.declared.bidding.Best.{Best}
use Rattle.auction.specs.declared.bidding.Held.{Held}
use Rattle.auction.specs.declared.bidding.Standing.{Standing}
use Rattle.auction.specs.declared.bidding.Standing.TheVariants.{Bidding, Served, Out}
use Rattle.auction.specs.Tally.{Tally, standing_at}
use Rattle.auction.specs.Consistent.{Consistent}
use Rattle.auction.specs.Found.{Found}
use Rattle.auction.proofs.Rows.{job_in, worth_on}

-- x is the best of the first entries of the row, and no other is worth more than its price and the runner-up r.
pub record BestFits (ps : List ℕ) (row : List (ℕ × ℕ)) (looked r : ℕ) (x : Best) : Type 0 where
  pub worth_is : x.worth ≡ worth_in row x.job
  pub worthy : 0 < x.worth
  -- The price seen, worth minus net, is at most the price now.
  pub seen : x.worth + down x.net ≤ get_or ps x.job 0 + up x.net
  pub others : (k : ℕ) → k < looked → (job_in row k ≡ x.job → ⊥) → worth_on row k ≤ get_or ps (job_in row k) 0 + r

abbrev pub BidFits : List ℕ → List (ℕ × ℕ) → ℕ → ℕ → Option Best → Type 0
BidFits ps row looked r None = (k : ℕ) → k < looked → worth_on row k ≡ 0
BidFits ps row looked r (Some x) = BestFits ps row looked r x

-- A served carrier is within a step of its best net at the prices now, and of 0.
pub record HeldFits (step : ℕ) (ps : List ℕ) (row : List (ℕ × ℕ)) (h : Held) : Type 0 where
  pub worth_is : h.worth ≡ worth_in row h.job
  pub worthy : 0 < h.worth
  pub of_none : get_or ps h.job 0 ≤ h.worth + step
  pub of_best : (j : ℕ) → worth_in row j + get_or ps h.job 0 ≤ h.worth + step + get_or ps j 0

abbrev pub StandingFits : ℕ → List ℕ → List (ℕ × ℕ) → Standing → Type 0
StandingFits step ps row (Bidding b) = (b.looked ≤ length row) × BidFits ps row b.looked b.runner_up b.best × ∥ Found ps row b ∥₁
StandingFits step ps row (Served h) = HeldFits step ps row h
StandingFits step ps row Out = (j : ℕ) → worth_in row j ≤ get_or ps j 0
StandingFits step ps row _ = Unit {0}

abbrev pub Fits : Meaning → Tally → Type 0
Fits m t = (i : ℕ) → i < m.carriers → StandingFits t.step t.prices (row_of m i) (standing_at t i)

pub record Invariant (m : Meaning) (t : Tally) : Type 0 where
  pub consistent : Consistent m.carriers m.jobs m.ceiling t
  pub fits : Fits m t
