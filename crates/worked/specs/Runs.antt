-- Worked runs: what is asked of a hall, call by call, and what it answers.
use Rattle.std.specs.Prelude.{◌≡◌, ℕ, ◌+◌, ◌*◌, ◌≤◌, List, [], ◌∷◌, map, ℤ, pos, negsuc, Some, None, Ok, Option, Result, IsSomeAnd}
use Rattle.refusals.specs.declared.Refusal.{Refusal}
use Rattle.sources.specs.Meaning.{Meaning}
use Rattle.auction.specs.declared.calls.Call.{Call}
use Rattle.auction.specs.declared.calls.Call.TheVariants.{Start, Summon, Settle, Run, PriceOf, HolderOf, StandingOf, TotalWorth}
use Rattle.auction.specs.declared.calls.Answer.{Answer}
use Rattle.auction.specs.declared.calls.Answer.TheVariants.{Accepted, Settled, Ran, Price, Holder, Stands, Worth}
use Rattle.auction.specs.declared.bidding.Bid.{Bid}
use Rattle.auction.specs.declared.bidding.Ending.{Ending}
use Rattle.auction.specs.declared.bidding.Ending.TheVariants.{Done, Spent}
use Rattle.auction.specs.declared.bidding.Standing.TheVariants.{Waiting, Bidding, Served, Out}
use Rattle.auction.specs.declared.bidding.Verdict.TheVariants.{Out as GoesOut, Stale}
use Rattle.auction.specs.Calls.{answers_from}
use Rattle.auction.specs.Bids.{offer, judged}
use Rattle.auction.specs.Laws.{Pairing, worth}

-- Calls on a new hall that are all accepted, each with its answer.
abbrev pub Exchange : Type 0
Exchange = List (Call × Answer)

abbrev pub calls_in : Exchange → List Call
calls_in x = map (λ e. e.0) x

abbrev pub answers_in : Exchange → List (Result Answer Refusal)
answers_in x = map (λ e. Ok e.1) x

-- The rules answer so, where the source has that meaning.
abbrev pub Plays : Meaning → Exchange → Type 0
Plays m x = answers_from m None (calls_in x) ≡ answers_in x

abbrev pub ran_for : ℕ → ℕ → ℕ → ℕ → ℕ → Ending → Answer
ran_for steps summonses awards stales outs ending =
    Ran (record { steps = steps; counts = record { summonses = summonses; awards = awards; stales = stales; outs = outs }; ending = ending })

-- A bid whose carrier looked at so many entries, with the best net, its job and worth, and the runner-up.
abbrev pub bid_with : ℕ → ℤ → ℕ → ℕ → ℕ → Bid
bid_with looked net job worth runner-up = record { looked = looked; best = Some (record { net = net; job = job; worth = worth }); runner_up = runner-up }

-- ---- rows 5 10 1, 4 11 3 and 5 14 8, which is three_by_three; step 1, lanes 4

-- Depth 1. After 3 steps carrier 0 has job 1 at 6; after 6 carrier 1 has it at 8; after 9 carrier 2 has job 2 at 3; after 12, the last, carrier 0 has job 0 at 4.
abbrev pub one_by_one : Exchange
one_by_one =
    (Start 1 4, Accepted) ∷ (Run 1 3, ran_for 3 1 1 0 0 Spent) ∷ (HolderOf 1, Holder (Some 0)) ∷ (PriceOf 1, Price 6)
    ∷ (Start 1 4, Accepted) ∷ (Run 1 6, ran_for 6 2 2 0 0 Spent) ∷ (HolderOf 1, Holder (Some 1)) ∷ (PriceOf 1, Price 8)
    ∷ (Start 1 4, Accepted) ∷ (Run 1 9, ran_for 9 3 3 0 0 Spent) ∷ (HolderOf 2, Holder (Some 2)) ∷ (PriceOf 2, Price 3)
    ∷ (Start 1 4, Accepted) ∷ (Run 1 100, ran_for 12 4 4 0 0 Done) ∷ (HolderOf 0, Holder (Some 0)) ∷ (PriceOf 0, Price 4)
    ∷ (HolderOf 1, Holder (Some 1)) ∷ (HolderOf 2, Holder (Some 2)) ∷ (TotalWorth, Worth 24) ∷ []

-- Depth 3. Carrier 2 looks at its row while every price is 0, and settles after carrier 1 has won job 1 at 8: its bid is stale, and it waits again. The end is the same, in 15 steps.
abbrev pub bid_of_carrier_2 : Bid
bid_of_carrier_2 = bid_with 3 (pos 14) 1 14 8

abbrev pub three_in_flight : Exchange
three_in_flight =
    (Start 1 4, Accepted) ∷ (Run 3 6, ran_for 6 3 0 0 0 Spent) ∷ (StandingOf 2, Stands (Bidding bid_of_carrier_2))
    ∷ (Start 1 4, Accepted) ∷ (Run 3 10, ran_for 10 4 2 1 0 Spent) ∷ (PriceOf 1, Price 8) ∷ (StandingOf 2, Stands Waiting)
    ∷ (Start 1 4, Accepted) ∷ (Run 3 100, ran_for 15 5 4 1 0 Done)
    ∷ (HolderOf 0, Holder (Some 0)) ∷ (HolderOf 1, Holder (Some 1)) ∷ (HolderOf 2, Holder (Some 2))
    ∷ (PriceOf 0, Price 4) ∷ (PriceOf 1, Price 8) ∷ (PriceOf 2, Price 3) ∷ (TotalWorth, Worth 24) ∷ []

-- What carrier 2 bids for job 1 is 14 - 8 + 1, and it is stale against a price of 8.
pub record StaleBid : Type 0 where
  pub bid : IsSomeAnd bid_of_carrier_2.best (λ x. offer 1 bid_of_carrier_2.runner_up x ≡ 7)
  pub stale : judged 1 (0 ∷ 8 ∷ 0 ∷ []) (None ∷ Some 1 ∷ None ∷ []) bid_of_carrier_2 ≡ Stale

-- ---- one job, worth 5 to carrier 0 and w to carrier 1; step 1, depth 1: carrier 0 wins at 6, then carrier 1 looks

abbrev pub one_job : ℕ → Meaning
one_job w = record { carriers = 2; jobs = 1; ceiling = 9; rows = ((0, 5) ∷ []) ∷ ((0, w) ∷ []) ∷ [] }

abbrev pub then_looks : Bid → Answer → Answer → Answer → Answer → Exchange
then_looks bid ends stands holder price =
    (Start 1 4, Accepted) ∷ (Run 1 3, ran_for 3 1 1 0 0 Spent) ∷ (HolderOf 0, Holder (Some 0)) ∷ (PriceOf 0, Price 6)
    ∷ (Run 1 2, ran_for 2 1 0 0 0 Spent) ∷ (StandingOf 1, Stands (Bidding bid)) ∷ (Run 1 100, ends) ∷ (StandingOf 1, stands) ∷ (HolderOf 0, holder) ∷ (PriceOf 0, price) ∷ []

-- Worth 3: the net is -3, and carrier 1 is out.
abbrev pub net_below : Exchange
net_below = then_looks (bid_with 1 (negsuc 2) 0 3 0) (ran_for 1 0 0 0 1 Done) (Stands Out) (Holder (Some 0)) (Price 6)

-- Worth 6: the net is 0, and carrier 1 is out.
abbrev pub net_zero : Exchange
net_zero = then_looks (bid_with 1 (pos 0) 0 6 0) (ran_for 1 0 0 0 1 Done) (Stands Out) (Holder (Some 0)) (Price 6)

-- Worth 7: the net is 1, and carrier 1 wins at 8. Carrier 0 then bids again, and is out.
abbrev pub net_above : Exchange
net_above = then_looks (bid_with 1 (pos 1) 0 7 0) (ran_for 4 1 1 0 1 Done) (Stands (Served (record { job = 0; worth = 7 }))) (Holder (Some 1)) (Price 8)

-- ---- two jobs of worth 9 for one carrier; step 1: it wins job 0 at 1

abbrev pub two_alike : Meaning
two_alike = record { carriers = 1; jobs = 2; ceiling = 9; rows = ((0, 9) ∷ (1, 9) ∷ []) ∷ [] }

abbrev pub smaller_job : Exchange
smaller_job = (Start 1 4, Accepted) ∷ (Run 1 100, ran_for 3 1 1 0 0 Done) ∷ (HolderOf 0, Holder (Some 0)) ∷ (PriceOf 0, Price 1) ∷ (HolderOf 1, Holder None) ∷ []

-- ---- rows 10 9 and 10 1; step 10, depth 1: both prices are 11 and the worth is 11

abbrev pub wide : Meaning
wide = record { carriers = 2; jobs = 2; ceiling = 10; rows = ((0, 10) ∷ (1, 9) ∷ []) ∷ ((0, 10) ∷ (1, 1) ∷ []) ∷ [] }

abbrev pub wide_step : Exchange
wide_step =
    (Start 10 4, Accepted) ∷ (Run 1 100, ran_for 6 2 2 0 0 Done) ∷ (PriceOf 0, Price 11) ∷ (PriceOf 1, Price 11)
    ∷ (HolderOf 0, Holder (Some 0)) ∷ (HolderOf 1, Holder (Some 1)) ∷ (TotalWorth, Worth 11) ∷ []

-- The rival pairing is worth 19, which is within 11 and a step for each of the two served.
abbrev pub wide_rival : List (Option ℕ)
wide_rival = Some 1 ∷ Some 0 ∷ []

pub record WideRival : Type 0 where
  pub pairing : Pairing wide wide_rival
  pub rival : worth wide wide_rival ≡ 19
  pub within : worth wide wide_rival ≤ 11 + 10 * 2

-- ---- an empty row settles out without a look

abbrev pub no_entries : Meaning
no_entries = record { carriers = 1; jobs = 1; ceiling = 9; rows = [] ∷ [] }

abbrev pub empty_row : Exchange
empty_row = (Start 1 4, Accepted) ∷ (Summon 0, Accepted) ∷ (Settle 0, Settled GoesOut) ∷ (StandingOf 0, Stands Out) ∷ []
