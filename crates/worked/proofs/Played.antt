-- The rules answer as the worked runs say.
use Rattle.std.proofs.Common.{◌≡◌, ℕ, zero, suc, ◌<◌, get_or, Some, None, refl, subst, lit≤, arith}
use Rattle.std.proofs.lemmas.Option.{none-some, same_Some}
use Rattle.sources.specs.Meaning.{worth_of}
use Rattle.auction.specs.Bids.{weighed}
use Rattle.auction.specs.Rules.{tally_at_start, bid_at}
use Rattle.auction.specs.Runs.{beginning, one_step, many_steps, ran}
use Rattle.auction.specs.Calls.{answer_to, tally_by}
use Rattle.worked.specs.Sheets.{three_by_three}
use Rattle.worked.specs.Runs.{Plays, StaleBid, WideRival, empty_row, net_above, net_below, net_zero, no_entries, one_by_one, one_job, smaller_job, three_in_flight, two_alike, wide, wide_rival, wide_step}

pub one_by_one_played : Plays three_by_three one_by_one
unfolding weighed tally_at_start bid_at beginning one_step many_steps ran answer_to tally_by
one_by_one_played = refl

pub three_in_flight_played : Plays three_by_three three_in_flight
unfolding weighed tally_at_start bid_at beginning one_step many_steps ran answer_to tally_by
three_in_flight_played = refl

pub net_below_played : Plays (one_job 3) net_below
unfolding weighed tally_at_start bid_at beginning one_step many_steps ran answer_to tally_by
net_below_played = refl

pub net_zero_played : Plays (one_job 6) net_zero
unfolding weighed tally_at_start bid_at beginning one_step many_steps ran answer_to tally_by
net_zero_played = refl

pub net_above_played : Plays (one_job 7) net_above
unfolding weighed tally_at_start bid_at beginning one_step many_steps ran answer_to tally_by
net_above_played = refl

pub smaller_job_played : Plays two_alike smaller_job
unfolding weighed tally_at_start bid_at beginning one_step many_steps ran answer_to tally_by
smaller_job_played = refl

pub wide_step_played : Plays wide wide_step
unfolding weighed tally_at_start bid_at beginning one_step many_steps ran answer_to tally_by
wide_step_played = refl

pub empty_row_played : Plays no_entries empty_row
unfolding weighed tally_at_start bid_at beginning one_step many_steps ran answer_to tally_by
empty_row_played = refl

-- The bid of 7 against a price of 8.
pub stale_bid : StaleBid
stale_bid = record { bid = refl; stale = refl }

-- Carrier 0 with job 1 and carrier 1 with job 0.
rival_worthy : (i j : ℕ) → get_or wide_rival i None ≡ Some j → 0 < worth_of wide i j
rival_worthy zero j e = subst (λ k. 0 < worth_of wide 0 k) (same_Some _ _ e) (lit≤ tt)
rival_worthy (suc zero) j e = subst (λ k. 0 < worth_of wide 1 k) (same_Some _ _ e) (lit≤ tt)
rival_worthy (suc (suc i)) j e = absurd (none-some _ e)

rival_apart : (i k j : ℕ) → get_or wide_rival i None ≡ Some j → get_or wide_rival k None ≡ Some j → i ≡ k
rival_apart zero zero j p q = refl
rival_apart zero (suc zero) j p q = let a = same_Some _ _ p in let b = same_Some _ _ q in absurd (omega (arith, a, b))
rival_apart (suc zero) zero j p q = let a = same_Some _ _ p in let b = same_Some _ _ q in absurd (omega (arith, a, b))
rival_apart (suc zero) (suc zero) j p q = refl
rival_apart i (suc (suc k)) j p q = absurd (none-some _ q)
rival_apart (suc (suc i)) k j p q = absurd (none-some _ p)

pub rival_within : WideRival
rival_within = record {
  pairing = record { sized = refl; worthy = rival_worthy; apart = rival_apart };
  rival = refl;
  within = lit≤ tt;
}
