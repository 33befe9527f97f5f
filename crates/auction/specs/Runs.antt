-- Run: a line of carriers that wait, and a flight of those that bid, each with the looks that it has left.
use Rattle.std.specs.Prelude.{◌≡◌, ℕ, zero, suc, ◌+◌, ◌-◌, ◌≤◌, Bool, true, false, cond, List, [], ◌∷◌, ◌++◌, length, Some, None, Ok, Err, count_by, Option, Result, ◌==◌, nat_lt}
use Rattle.std.specs.Option.{option_map, option_to_list}
use Rattle.sources.specs.Meaning.{Meaning, row_of}
use Rattle.refusals.specs.declared.Refusal.{Refusal}
use Rattle.refusals.specs.declared.Refusal.TheVariants.{NeverStarted, DepthOutside}
use Rattle.auction.specs.declared.bidding.Act.TheVariants.{Summon, Look}
use Rattle.auction.specs.declared.bidding.Counts.{Counts}
use Rattle.auction.specs.declared.bidding.InFlight.{InFlight}
use Rattle.auction.specs.declared.bidding.Standing.{Standing}
use Rattle.auction.specs.declared.bidding.Verdict.{Verdict}
use Rattle.auction.specs.declared.bidding.Verdict.TheVariants.{Out as GoesOut, Stale, Awarded}
use Rattle.auction.specs.declared.bidding.Ending.{Ending}
use Rattle.auction.specs.declared.bidding.Ending.TheVariants.{Done, Spent}
use Rattle.auction.specs.declared.bidding.Report.{Report}
use Rattle.auction.specs.Standings.{is_waiting, is_bidding, if_waiting, in_flight, looks_for, if_bidding}
use Rattle.auction.specs.Tally.{Tally}
use Rattle.auction.specs.Rules.{between, called, settle_answer, settled}
use Rattle.auction.specs.Limits.{greatest_depth}

-- What a run works on: the line, the flight, the tally, and the steps made so far.
pub record RunState : Type 0 where
  pub line : List ℕ
  pub flight : List InFlight
  pub tally : Tally
  pub steps : ℕ

-- What f gives for each standing and its carrier, ascending; the first is carrier i.
abbrev pub gathered : {X : Type 0} → (ℕ → Standing → List X) → ℕ → List Standing → List X
gathered f i [] = []
gathered f i (s ∷ ss) = f i s ++ gathered f (suc i) ss

-- At first everybody who waits is in line and everybody who bids is in flight, both in the order of the carrier numbers.
unfoldable pub beginning : Meaning → Tally → RunState
beginning m t = record { line = gathered if_waiting 0 t.standings; flight = gathered (if_bidding m t.lanes) 0 t.standings; tally = t; steps = 0 }

-- The carrier that waits after carrier i has settled.
abbrev pub waits_after : ℕ → Verdict → Option ℕ
waits_after i GoesOut = None
waits_after i Stale = Some i
waits_after i (Awarded a) = a.displaced

abbrev pub joins_line : ℕ → Result Verdict Refusal → List ℕ
joins_line i (Ok v) = option_to_list (waits_after i v)
joins_line i (Err e) = []

-- The carrier first in flight acts: it looks if it has looks left, and is then last in flight; or else it settles, and whoever waits because of that is last in line.
abbrev pub first_acts : Meaning → ℕ → ℕ → List ℕ → List InFlight → Tally → ℕ → RunState
first_acts m i zero line flight t n =
    record { line = line ++ joins_line i (settle_answer i m (Some t)); flight = flight; tally = settled m i t; steps = n + 1 }
first_acts m i (suc left) line flight t n =
    record { line = line; flight = flight ++ in_flight i left ∷ []; tally = called m i Look t; steps = n + 1 }

-- The test is whether the depth leaves room in flight. If so, the carrier first in line is summoned, and is then last in flight; or else, or with nobody in line, the carrier first in flight acts.
abbrev pub step_by : Meaning → Bool → List ℕ → List InFlight → Tally → ℕ → RunState
step_by m true [] [] t n = record { line = []; flight = []; tally = t; steps = n }
step_by m true [] (f ∷ flight) t n = first_acts m f.carrier f.looks_left [] flight t n
step_by m true (i ∷ line) flight t n =
    record { line = line; flight = flight ++ in_flight i (looks_for t.lanes (length (row_of m i))) ∷ []; tally = called m i Summon t; steps = n + 1 }
step_by m false line [] t n = record { line = line; flight = []; tally = t; steps = n }
step_by m false line (f ∷ flight) t n = first_acts m f.carrier f.looks_left line flight t n

-- One step; none is made where nobody is in line or flight.
unfoldable pub one_step : Meaning → ℕ → RunState → RunState
one_step m depth r = step_by m (nat_lt (length r.flight) depth) r.line r.flight r.tally r.steps

unfoldable pub many_steps : Meaning → ℕ → ℕ → RunState → RunState
many_steps m depth zero r = r
many_steps m depth (suc n) r = many_steps m depth n (one_step m depth r)

-- Done if nobody waits or bids.
abbrev pub ending_of : Tally → Ending
ending_of t = cond (count_by is_waiting t.standings + count_by is_bidding t.standings == 0) Done Spent

-- What was counted between two counts.
abbrev pub since : Counts → Counts → Counts
since before after = record {
  summonses = after.summonses - before.summonses;
  awards = after.awards - before.awards;
  stales = after.stales - before.stales;
  outs = after.outs - before.outs;
}

abbrev pub report_of : Counts → Counts → ℕ → Ending → Report
report_of before after steps ending = record { steps = steps; counts = since before after; ending = ending }

abbrev pub run_report : Tally → RunState → Report
run_report t r = report_of t.counts r.tally.counts r.steps (ending_of r.tally)

-- What a report tells of the tallies before and after the run: it is done exactly if nobody waits or bids, spent only if the steps equal the budget, and its counts are what the tally's moved by. Each summons, award, stale bid and out took a step of its own; the other steps were looks.
pub record Reports (budget : ℕ) (before after : Tally) (p : Report) : Type 0 where
  pub done : p.ending ≡ ending_of after
  pub spent : p.ending ≡ Spent → p.steps ≡ budget
  pub within : p.steps ≤ budget
  pub covered : p.counts.summonses + p.counts.awards + p.counts.stales + p.counts.outs ≤ p.steps
  pub summonses_made : before.counts.summonses + p.counts.summonses ≡ after.counts.summonses
  pub awards_made : before.counts.awards + p.counts.awards ≡ after.counts.awards
  pub stales_made : before.counts.stales + p.counts.stales ≡ after.counts.stales
  pub outs_made : before.counts.outs + p.counts.outs ≡ after.counts.outs

-- Whether the hall was started is checked first, the depth then.
abbrev pub run_answer : ℕ → ℕ → Meaning → Option Tally → Result Report Refusal
run_answer depth budget m None = Err NeverStarted
run_answer depth budget m (Some t) = cond (between 1 greatest_depth depth) (Ok (run_report t (many_steps m depth budget (beginning m t)))) (Err DepthOutside)

unfoldable pub ran : Meaning → ℕ → ℕ → Tally → Tally
ran m depth budget t = cond (between 1 greatest_depth depth) (many_steps m depth budget (beginning m t)).tally t

abbrev pub run_tally : ℕ → ℕ → Meaning → Option Tally → Option Tally
run_tally depth budget m o = option_map (ran m depth budget) o
