-- That a tally is consistent, and that it has the invariant, has one proof at most, so that a ghost field can carry it.
use Prim.{IsProp}
use mathlib.Core.Bool.{Bool-set}
use mathlib.Core.HLevel.{Unit-prop}
use mathlib.Core.Logic.{∥∥₁_prop}
use Rattle.std.proofs.Common.{ℕ, ◌+◌, List, length, ℤ, pos, ◌≤ℤ◌, Some, None, count_by, Option}
use native.Mathlib.Bridge.{le_prop}
use native.Mathlib.Nat.{ℕ_set}
use lib.Dec.{T_prop}
use lib.Signed.{le_z}
use Rattle.sources.specs.Meaning.{Meaning, row_of, worth_in}
use Rattle.auction.specs.declared.bidding.Best.{Best}
use Rattle.auction.specs.declared.bidding.Standing.{Standing}
use Rattle.auction.specs.declared.bidding.Standing.TheVariants.{Bidding, Served, Out}
use Rattle.auction.specs.Standings.{is_bidding, is_out, holds_job, BidSound, StandingSound}
use Rattle.auction.specs.Tally.{Tally, price_at, holder_at, standing_at, is_holder}
use Rattle.auction.specs.Consistent.{Limits, Consistent}
use Rattle.auction.proofs.Rows.{worth_on}
use Rattle.auction.proofs.Invariant.{BestFits, BidFits, StandingFits, Invariant}

le_z_prop : (a b : ℤ) → IsProp (a ≤ℤ b)
le_z_prop a b p q = λ i. record { le = T_prop (le_z a b) p.le q.le i }

limits_prop : (carriers jobs ceiling step lanes : ℕ) → IsProp (Limits carriers jobs ceiling step lanes)
limits_prop carriers jobs ceiling step lanes p q = λ i. record {
  few_carriers = le_prop p.few_carriers q.few_carriers i;
  few_jobs = le_prop p.few_jobs q.few_jobs i;
  low_ceiling = le_prop p.low_ceiling q.low_ceiling i;
  some_step = le_prop p.some_step q.some_step i;
  low_step = le_prop p.low_step q.low_step i;
  some_lanes = le_prop p.some_lanes q.some_lanes i;
  few_lanes = le_prop p.few_lanes q.few_lanes i;
}

bid_prop : (jobs ceiling r : ℕ) (o : Option Best) → IsProp (BidSound jobs ceiling r o)
bid_prop jobs ceiling r None p q = ℕ_set r 0 p q
bid_prop jobs ceiling r (Some x) p q = λ i. record {
  known = le_prop p.known q.known i;
  low_worth = le_prop p.low_worth q.low_worth i;
  low_net = le_z_prop x.net (pos x.worth) p.low_net q.low_net i;
  low_runner = le_prop p.low_runner q.low_runner i;
}

standing_prop : (jobs ceiling : ℕ) (s : Standing) → IsProp (StandingSound jobs ceiling s)
standing_prop jobs ceiling (Bidding b) = bid_prop jobs ceiling b.runner_up b.best
standing_prop jobs ceiling (Served h) = le_prop
standing_prop jobs ceiling _ = Unit-prop

pub consistent_prop : (carriers jobs ceiling : ℕ) (t : Tally) → IsProp (Consistent carriers jobs ceiling t)
consistent_prop carriers jobs ceiling t p q = λ i. record {
  limits = limits_prop carriers jobs ceiling t.step t.lanes p.limits q.limits i;
  prices_sized = ℕ_set (length t.prices) jobs p.prices_sized q.prices_sized i;
  holders_sized = ℕ_set (length t.holders) jobs p.holders_sized q.holders_sized i;
  standings_sized = ℕ_set (length t.standings) carriers p.standings_sized q.standings_sized i;
  sound = λ k. standing_prop jobs ceiling (standing_at t k) (p.sound k) (q.sound k) i;
  matched = λ k j. Bool-set (is_holder k (holder_at t j)) (holds_job j (standing_at t k)) (p.matched k j) (q.matched k j) i;
  unheld = λ j e. ℕ_set (price_at t j) 0 (p.unheld j e) (q.unheld j e) i;
  low_prices = λ j. le_prop (p.low_prices j) (q.low_prices j) i;
  raised = le_prop p.raised q.raised i;
  balanced = ℕ_set t.counts.summonses (t.counts.awards + t.counts.stales + t.counts.outs + count_by is_bidding t.standings) p.balanced q.balanced i;
  outs_stay = ℕ_set t.counts.outs (count_by is_out t.standings) p.outs_stay q.outs_stay i;
  few_stales = le_prop p.few_stales q.few_stales i;
}

-- ---- the invariant

best_fits_prop : (ps : List ℕ) (row : List (ℕ × ℕ)) (looked r : ℕ) (x : Best) → IsProp (BestFits ps row looked r x)
best_fits_prop ps row looked r x p q = λ i. record {
  worth_is = ℕ_set x.worth (worth_in row x.job) p.worth_is q.worth_is i;
  worthy = le_prop p.worthy q.worthy i;
  seen = le_prop p.seen q.seen i;
  others = λ k l n. le_prop (p.others k l n) (q.others k l n) i;
}

bid_fits_prop : (ps : List ℕ) (row : List (ℕ × ℕ)) (looked r : ℕ) (o : Option Best) → IsProp (BidFits ps row looked r o)
bid_fits_prop ps row looked r None p q = λ i k l. ℕ_set (worth_on row k) 0 (p k l) (q k l) i
bid_fits_prop ps row looked r (Some x) p q = best_fits_prop ps row looked r x p q

standing_fits_prop : (step : ℕ) (ps : List ℕ) (row : List (ℕ × ℕ)) (s : Standing) → IsProp (StandingFits step ps row s)
standing_fits_prop step ps row (Bidding b) p q = λ i. (le_prop p.0 q.0 i, bid_fits_prop ps row b.looked b.runner_up b.best p.1 q.1 i, ∥∥₁_prop p.2 q.2 i)
standing_fits_prop step ps row (Served h) p q = λ i. record {
  worth_is = ℕ_set h.worth (worth_in row h.job) p.worth_is q.worth_is i;
  worthy = le_prop p.worthy q.worthy i;
  of_none = le_prop p.of_none q.of_none i;
  of_best = λ j. le_prop (p.of_best j) (q.of_best j) i;
}
standing_fits_prop step ps row Out p q = λ i j. le_prop (p j) (q j) i
standing_fits_prop step ps row _ p q = Unit-prop p q

pub invariant_prop : (m : Meaning) (t : Tally) → IsProp (Invariant m t)
invariant_prop m t p q = λ i. record {
  consistent = consistent_prop m.carriers m.jobs m.ceiling t p.consistent q.consistent i;
  fits = λ k l. standing_fits_prop t.step t.prices (row_of m k) (standing_at t k) (p.fits k l) (q.fits k l) i;
}
