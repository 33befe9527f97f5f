-- The rules: what each call answers, and the tally after it. No tally is that of a hall that was never started.
-- Refusals stand in the order in which they are checked, and a refused call leaves the tally as it was.
use Rattle.std.specs.Prelude.{ℕ, ◌+◌, Bool, cond, ◌&&◌, List, length, replicate, Some, None, Ok, Err, Option, Result, nat_le, nat_lt, slice_set}
use Rattle.std.specs.Option.{option_map}
use Rattle.std.specs.Result.{result_map_both}
use Rattle.sources.specs.Meaning.{Meaning, row_of}
use Rattle.sources.specs.Sheets.{within_limits}
use Rattle.sources.specs.Tables.{heading_of}
use Rattle.refusals.specs.declared.Refusal.{Refusal}
use Rattle.refusals.specs.declared.Refusal.TheVariants.{CountsOutside, NeverStarted, StepOutside, LanesOutside, NoSuchCarrier, NotWaiting, NoOpenBid, RowLookedAt, RowNotLookedAt}
use Rattle.auction.specs.declared.bidding.Bid.{Bid}
use Rattle.auction.specs.declared.bidding.Counts.{Counts}
use Rattle.auction.specs.declared.bidding.Act.{Act}
use Rattle.auction.specs.declared.bidding.Act.TheVariants.{Summon, Look, Settle}
use Rattle.auction.specs.declared.bidding.Standing.{Standing}
use Rattle.auction.specs.declared.bidding.Standing.TheVariants.{Waiting, Bidding, Served, Out}
use Rattle.auction.specs.declared.bidding.Verdict.{Verdict}
use Rattle.auction.specs.declared.bidding.Verdict.TheVariants.{Out as GoesOut, Stale, Awarded}
use Rattle.auction.specs.Limits.{highest_step, most_lanes}
use Rattle.auction.specs.Bids.{new_bid, looked_on, judged, best_worth}
use Rattle.auction.specs.Tally.{Tally, standing_at}

-- ---- start: everything is set back, also while an auction is under way

abbrev pub between : ℕ → ℕ → ℕ → Bool
between low high n = nat_le low n && nat_le n high

-- The counts are within the limits of a sheet.
abbrev pub in_limits : Meaning → Bool
in_limits m = within_limits (heading_of m)

abbrev pub start_answer : ℕ → ℕ → Meaning → Result (Unit {0}) Refusal
start_answer step lanes m =
    cond (in_limits m) (cond (between 1 highest_step step) (cond (between 1 most_lanes lanes) (Ok tt) (Err LanesOutside)) (Err StepOutside)) (Err CountsOutside)

abbrev pub no_counts : Counts
no_counts = record { summonses = 0; awards = 0; stales = 0; outs = 0 }

-- Every price is 0, nobody holds a job, every carrier waits, and every count is 0.
unfoldable pub tally_at_start : ℕ → ℕ → ℕ → ℕ → Tally
tally_at_start carriers jobs step lanes = record {
  step = step;
  lanes = lanes;
  prices = replicate jobs 0;
  holders = replicate jobs None;
  standings = replicate carriers Waiting;
  counts = no_counts;
}

abbrev pub start_tally_by : Result (Unit {0}) Refusal → Tally → Option Tally → Option Tally
start_tally_by (Ok x) new o = Some new
start_tally_by (Err e) new o = o

abbrev pub start_tally : ℕ → ℕ → Meaning → Option Tally → Option Tally
start_tally step lanes m o = start_tally_by (start_answer step lanes m) (tally_at_start m.carriers m.jobs step lanes) o

-- ---- a carrier's standing and the call together: the bid that the call begins, carries on or finds ready to be judged

-- The row has no entry left that the bid has not looked at.
abbrev pub looked_all : List (ℕ × ℕ) → Bid → Bool
looked_all row b = nat_le (length row) b.looked

abbrev pub bid_after : ℕ → List ℕ → List (ℕ × ℕ) → Standing → Act → Result Bid Refusal
bid_after lanes prices row Waiting Summon = Ok new_bid
bid_after lanes prices row Waiting Look = Err NoOpenBid
bid_after lanes prices row Waiting Settle = Err NoOpenBid
bid_after lanes prices row (Bidding b) Summon = Err NotWaiting
bid_after lanes prices row (Bidding b) Look = cond (looked_all row b) (Err RowLookedAt) (Ok (looked_on lanes prices row b))
bid_after lanes prices row (Bidding b) Settle = cond (looked_all row b) (Ok b) (Err RowNotLookedAt)
bid_after lanes prices row (Served h) Summon = Err NotWaiting
bid_after lanes prices row (Served h) Look = Err NoOpenBid
bid_after lanes prices row (Served h) Settle = Err NoOpenBid
bid_after lanes prices row Out Summon = Err NotWaiting
bid_after lanes prices row Out Look = Err NoOpenBid
bid_after lanes prices row Out Settle = Err NoOpenBid

-- The carrier number is checked before the standing,
unfoldable pub bid_at : Meaning → ℕ → Act → Tally → Result Bid Refusal
bid_at m i act t = cond (nat_lt i m.carriers) (bid_after t.lanes t.prices (row_of m i) (standing_at t i) act) (Err NoSuchCarrier)

-- and whether the hall was started before both.
abbrev pub bid_by : Meaning → ℕ → Act → Option Tally → Result Bid Refusal
bid_by m i act None = Err NeverStarted
bid_by m i act (Some t) = bid_at m i act t

-- Summon and look tell only success.
abbrev pub success_of : Result Bid Refusal → Result (Unit {0}) Refusal
success_of r = result_map_both (λ _. tt) (λ e. e) r

-- A refused call leaves the tally as it was.
abbrev pub if_accepted : Result Bid Refusal → (Bid → Tally → Tally) → Tally → Tally
if_accepted (Ok b) f t = f b t
if_accepted (Err e) f t = t

-- The carrier's standing becomes s, and the counts become n; all else stays.
abbrev pub with_standing : ℕ → Standing → Counts → Tally → Tally
with_standing i s n t = record {
  step = t.step;
  lanes = t.lanes;
  prices = t.prices;
  holders = t.holders;
  standings = slice_set t.standings i s;
  counts = n;
}

-- ---- summon and look: the carrier is bidding, with the bid as it is then; a summons is counted

abbrev pub counted : Act → Counts → Counts
counted Summon n = record { summonses = n.summonses + 1; awards = n.awards; stales = n.stales; outs = n.outs }
counted Look n = n
counted Settle n = n

abbrev pub bids : Act → ℕ → Bid → Tally → Tally
bids act i b t = with_standing i (Bidding b) (counted act t.counts) t

abbrev pub called : Meaning → ℕ → Act → Tally → Tally
called m i act t = if_accepted (bid_at m i act t) (bids act i) t

abbrev pub summon_answer : ℕ → Meaning → Option Tally → Result (Unit {0}) Refusal
summon_answer i m o = success_of (bid_by m i Summon o)

abbrev pub summon_tally : ℕ → Meaning → Option Tally → Option Tally
summon_tally i m o = option_map (called m i Summon) o

abbrev pub look_answer : ℕ → Meaning → Option Tally → Result (Unit {0}) Refusal
look_answer i m o = success_of (bid_by m i Look o)

abbrev pub look_tally : ℕ → Meaning → Option Tally → Option Tally
look_tally i m o = option_map (called m i Look) o

-- ---- settle

-- The former holder, if there was one, waits.
abbrev pub freed : List Standing → Option ℕ → List Standing
freed ss None = ss
freed ss (Some i) = slice_set ss i Waiting

abbrev pub counted_out : Counts → Counts
counted_out n = record { summonses = n.summonses; awards = n.awards; stales = n.stales; outs = n.outs + 1 }

abbrev pub counted_stale : Counts → Counts
counted_stale n = record { summonses = n.summonses; awards = n.awards; stales = n.stales + 1; outs = n.outs }

abbrev pub counted_award : Counts → Counts
counted_award n = record { summonses = n.summonses; awards = n.awards + 1; stales = n.stales; outs = n.outs }

-- What a verdict on the bid of carrier i changes; worth is what the best job is worth to it.
abbrev pub carried_out : ℕ → ℕ → Verdict → Tally → Tally
carried_out i worth GoesOut t = with_standing i Out (counted_out t.counts) t
carried_out i worth Stale t = with_standing i Waiting (counted_stale t.counts) t
carried_out i worth (Awarded a) t = record {
  step = t.step;
  lanes = t.lanes;
  prices = slice_set t.prices a.job a.price;
  holders = slice_set t.holders a.job (Some i);
  standings = slice_set (freed t.standings a.displaced) i (Served (record { job = a.job; worth = worth }));
  counts = counted_award t.counts;
}

abbrev pub verdict_in : Tally → Bid → Verdict
verdict_in t b = judged t.step t.prices t.holders b

abbrev pub verdict_from : Tally → Result Bid Refusal → Result Verdict Refusal
verdict_from t r = result_map_both (verdict_in t) (λ e. e) r

abbrev pub settle_answer : ℕ → Meaning → Option Tally → Result Verdict Refusal
settle_answer i m None = Err NeverStarted
settle_answer i m (Some t) = verdict_from t (bid_at m i Settle t)

abbrev pub ended : ℕ → Bid → Tally → Tally
ended i b t = carried_out i (best_worth b.best) (verdict_in t b) t

abbrev pub settled : Meaning → ℕ → Tally → Tally
settled m i t = if_accepted (bid_at m i Settle t) (ended i) t

abbrev pub settle_tally : ℕ → Meaning → Option Tally → Option Tally
settle_tally i m o = option_map (settled m i) o
