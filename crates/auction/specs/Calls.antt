-- Every call: what it answers, and the tally after it; and lists of calls.
use Rattle.std.specs.Prelude.{ℕ, Bool, false, cond, List, [], ◌∷◌, is_ok, Some, None, Ok, Err, fold, Option, Result, nat_lt}
use Rattle.std.specs.List.{list_any}
use Rattle.std.specs.Result.{result_map_both}
use Rattle.sources.specs.Meaning.{Meaning}
use Rattle.refusals.specs.declared.Refusal.{Refusal}
use Rattle.refusals.specs.declared.Refusal.TheVariants.{NeverStarted, NoSuchCarrier, NoSuchJob}
use Rattle.auction.specs.declared.bidding.Standing.{Standing}
use Rattle.auction.specs.declared.bidding.Counts.{Counts}
use Rattle.auction.specs.declared.calls.Call.{Call}
use Rattle.auction.specs.declared.calls.Call.TheVariants.{Start, Summon, Look, Settle, Run, PriceOf, HolderOf, StandingOf, TotalWorth, AllCounts}
use Rattle.auction.specs.declared.calls.Answer.{Answer}
use Rattle.auction.specs.declared.calls.Answer.TheVariants.{Accepted, Settled, Ran, Price, Holder, Stands, Worth, Counted}
use Rattle.auction.specs.Tally.{Tally, price_at, holder_at, standing_at, total_worth}
use Rattle.auction.specs.Rules.{start_answer, start_tally, summon_answer, summon_tally, look_answer, look_tally, settle_answer, settle_tally}
use Rattle.auction.specs.Runs.{run_answer, run_tally}

-- ---- the questions tell what the tally holds

-- Whether the hall was started is checked first, the number of the job or carrier then.
abbrev pub price_answer : ℕ → Meaning → Option Tally → Result ℕ Refusal
price_answer j m None = Err NeverStarted
price_answer j m (Some t) = cond (nat_lt j m.jobs) (Ok (price_at t j)) (Err NoSuchJob)

abbrev pub holder_answer : ℕ → Meaning → Option Tally → Result (Option ℕ) Refusal
holder_answer j m None = Err NeverStarted
holder_answer j m (Some t) = cond (nat_lt j m.jobs) (Ok (holder_at t j)) (Err NoSuchJob)

abbrev pub standing_answer : ℕ → Meaning → Option Tally → Result Standing Refusal
standing_answer i m None = Err NeverStarted
standing_answer i m (Some t) = cond (nat_lt i m.carriers) (Ok (standing_at t i)) (Err NoSuchCarrier)

abbrev pub worth_answer : Meaning → Option Tally → Result ℕ Refusal
worth_answer m None = Err NeverStarted
worth_answer m (Some t) = Ok (total_worth t)

abbrev pub counts_answer : Meaning → Option Tally → Result Counts Refusal
counts_answer m None = Err NeverStarted
counts_answer m (Some t) = Ok t.counts

-- ---- one call

-- What f makes of the answer, or the refusal.
abbrev pub as_answer : {A : Type 0} → (A → Answer) → Result A Refusal → Result Answer Refusal
as_answer f r = result_map_both f (λ e. e) r

abbrev pub accepted : Unit {0} → Answer
accepted x = Accepted

unfoldable pub answer_to : Meaning → Option Tally → Call → Result Answer Refusal
answer_to m o (Start step lanes) = as_answer accepted (start_answer step lanes m)
answer_to m o (Summon i) = as_answer accepted (summon_answer i m o)
answer_to m o (Look i) = as_answer accepted (look_answer i m o)
answer_to m o (Settle i) = as_answer Settled (settle_answer i m o)
answer_to m o (Run depth budget) = as_answer Ran (run_answer depth budget m o)
answer_to m o (PriceOf j) = as_answer Price (price_answer j m o)
answer_to m o (HolderOf j) = as_answer Holder (holder_answer j m o)
answer_to m o (StandingOf i) = as_answer Stands (standing_answer i m o)
answer_to m o TotalWorth = as_answer Worth (worth_answer m o)
answer_to m o AllCounts = as_answer Counted (counts_answer m o)

unfoldable pub tally_by : Meaning → Option Tally → Call → Option Tally
tally_by m o (Start step lanes) = start_tally step lanes m o
tally_by m o (Summon i) = summon_tally i m o
tally_by m o (Look i) = look_tally i m o
tally_by m o (Settle i) = settle_tally i m o
tally_by m o (Run depth budget) = run_tally depth budget m o
tally_by m o (PriceOf j) = o
tally_by m o (HolderOf j) = o
tally_by m o (StandingOf i) = o
tally_by m o TotalWorth = o
tally_by m o AllCounts = o

-- ---- a list of calls, on a hall that was never started

unfoldable pub tally_from : Meaning → Option Tally → List Call → Option Tally
tally_from m o calls = fold (tally_by m) o calls

abbrev pub tally_after : Meaning → List Call → Option Tally
tally_after m calls = tally_from m None calls

-- Each call's answer, one for one, each after the calls before it.
abbrev pub answers_from : Meaning → Option Tally → List Call → List (Result Answer Refusal)
answers_from m o [] = []
answers_from m o (c ∷ calls) = answer_to m o c ∷ answers_from m (tally_by m o c) calls

-- Whether the list has a start that is accepted.
abbrev pub is_start : Meaning → Call → Bool
is_start m (Start step lanes) = is_ok (start_answer step lanes m)
is_start m (Summon i) = false
is_start m (Look i) = false
is_start m (Settle i) = false
is_start m (Run depth budget) = false
is_start m (PriceOf j) = false
is_start m (HolderOf j) = false
is_start m (StandingOf i) = false
is_start m TotalWorth = false
is_start m AllCounts = false

abbrev pub has_start : Meaning → List Call → Bool
has_start m calls = list_any (is_start m) calls
