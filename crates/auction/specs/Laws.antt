-- The laws of the auction, over pairings of carriers with jobs.
use Rattle.std.specs.Prelude.{◌≡◌, ℕ, ◌+◌, ◌-◌, ◌*◌, ◌<◌, ◌≤◌, List, [], ◌∷◌, map, length, take, pos, ◌-ℤ◌, ◌<ℤ◌, Some, None, count_by, Option, Contains, ◌≢◌, slice_index_or, ◌↔◌}
use Rattle.sources.specs.Meaning.{Meaning, row_of, worth_in, worth_of}
use Rattle.sources.specs.Layers.{times_of}
use Rattle.auction.specs.declared.bidding.Award.{Award}
use Rattle.auction.specs.declared.bidding.Best.{Best}
use Rattle.auction.specs.declared.bidding.Bid.{Bid}
use Rattle.auction.specs.declared.bidding.Held.{Held}
use Rattle.auction.specs.declared.bidding.Verdict.TheVariants.{Stale, Awarded}
use Rattle.auction.specs.declared.bidding.Standing.TheVariants.{Bidding, Served, Out}
use Rattle.auction.specs.Standings.{is_waiting, is_bidding, is_served, ServedOrOut, job_served}
use Rattle.auction.specs.Tally.{Tally, price_at, holder_at, standing_at, total_worth}
use Rattle.auction.specs.Bids.{natural, offer}
use Rattle.auction.specs.Looks.{net_at}
use Rattle.auction.specs.Found.{Found}
use Rattle.auction.specs.Rules.{verdict_in}

-- Each carrier's job, if it has one: its worth is above 0, and no job is given twice.
pub record Pairing (m : Meaning) (p : List (Option ℕ)) : Type 0 where
  pub sized : length p ≡ m.carriers
  pub worthy : (i j : ℕ) → slice_index_or p i None ≡ Some j → 0 < worth_of m i j
  pub apart : (i k j : ℕ) → slice_index_or p i None ≡ Some j → slice_index_or p k None ≡ Some j → i ≡ k

abbrev pub given_worth : List (ℕ × ℕ) → Option ℕ → ℕ
given_worth row None = 0
given_worth row (Some j) = worth_in row j

abbrev pub worth_along : List (List (ℕ × ℕ)) → List (Option ℕ) → ℕ
worth_along [] p = 0
worth_along (row ∷ rows) [] = 0
worth_along (row ∷ rows) (o ∷ p) = given_worth row o + worth_along rows p

-- What the pairing is worth.
abbrev pub worth : Meaning → List (Option ℕ) → ℕ
worth m p = worth_along m.rows p

abbrev pub pairing_of : Tally → List (Option ℕ)
pairing_of t = map job_served t.standings

abbrev pub served : Tally → ℕ
served t = count_by is_served t.standings

abbrev pub waiting : Tally → ℕ
waiting t = count_by is_waiting t.standings

abbrev pub bidding : Tally → ℕ
bidding t = count_by is_bidding t.standings

-- The pairing gives jobs to no carrier but those that are served or out.
abbrev pub Among : Tally → List (Option ℕ) → Type 0
Among t p = (i j : ℕ) → slice_index_or p i None ≡ Some j → ServedOrOut (standing_at t i)

-- Epsilon-complementary slackness, the step being epsilon: a served carrier is told what its job is worth to it, and is within one step of its best net at the prices now, and of 0.
pub record Slack (m : Meaning) (t : Tally) (i : ℕ) (h : Held) : Type 0 where
  pub worth_is : h.worth ≡ worth_of m i h.job
  pub of_none : price_at t h.job ≤ h.worth + t.step
  pub of_best : (j : ℕ) → worth_of m i j + price_at t h.job ≤ h.worth + t.step + price_at t j

-- Of carrier i's open bid b with the best x: its worth is the source's, and its net that worth minus the price seen, which has not fallen since. What is bid for it is the price seen plus the net, minus the runner-up, plus the step.
pub record OpenBid (m : Meaning) (t : Tally) (i : ℕ) (b : Bid) (x : Best) : Type 0 where
  pub seen : ℕ
  pub worth_is : x.worth ≡ worth_of m i x.job
  pub net_is : x.net ≡ pos x.worth -ℤ pos seen
  pub risen : seen ≤ price_at t x.job
  pub bid_is : pos 0 <ℤ x.net → offer t.step b.runner_up x + b.runner_up ≡ seen + natural x.net + t.step
  -- It is judged stale only if the best job costs more now than when it was seen.
  pub stale_why : verdict_in t b ≡ Stale → seen < price_at t x.job
  -- Were the runner-up the net, at the prices now, of any other entry that was looked at, no less would be bid.
  pub conservative : (e : ℕ × ℕ) → Contains (take b.looked (row_of m i)) e → e.0 ≢ x.job →
      offer t.step b.runner_up x ≤ offer t.step (natural (net_at t.prices e).net) x

pub record AuctionLaws (m : Meaning) (t : Tally) : Type 0 where
  -- What the hall gives is a pairing, and the total worth that it tells is that pairing's.
  pub own : Pairing m (pairing_of t)
  pub valued : worth m (pairing_of t) ≡ total_worth t
  -- The holder that is told of a job is the carrier that has it in that pairing.
  pub held : (i j : ℕ) → (holder_at t j ≡ Some i) ↔ (slice_index_or (pairing_of t) i None ≡ Some j)
  -- No other pairing of the carriers then served or out is worth more than the hall's and a step for each served carrier.
  pub rival : (p : List (Option ℕ)) → Pairing m p → Among t p → worth m p ≤ worth m (pairing_of t) + t.step * served t
  -- Where the source is a times layer with a factor above carriers × step, none is worth more than the hall's, counted below that layer.
  pub exact : (below : Meaning) (g : ℕ) → m ≡ times_of g below → m.carriers * t.step < g →
      (p : List (Option ℕ)) → Pairing below p → Among t p → worth below p ≤ worth below (pairing_of t)
  pub slack : (i : ℕ) (h : Held) → standing_at t i ≡ Served h → Slack m t i h
  -- Who is out would gain nothing at the prices now.
  pub left_out : (i j : ℕ) → i < m.carriers → standing_at t i ≡ Out → worth_of m i j ≤ price_at t j
  -- A job that nobody holds costs nothing.
  pub unsold : (j : ℕ) → holder_at t j ≡ None → price_at t j ≡ 0
  -- A bid is the price seen plus the best net, minus the runner-up, plus the step.
  pub bid_is : (i : ℕ) (b : Bid) (x : Best) → standing_at t i ≡ Bidding b → b.best ≡ Some x → OpenBid m t i b x
  -- Its best and its runner-up are those of all the nets that it has seen, over all its looks, each at a price that has not fallen since.
  pub found : (i : ℕ) (b : Bid) → standing_at t i ≡ Bidding b → ∥ Found t.prices (row_of m i) b ∥₁
  -- Only for a best net above 0 is a job awarded, and it then costs what was bid; its former holder is displaced.
  pub paid_is : (i : ℕ) (b : Bid) (x : Best) (a : Award) → standing_at t i ≡ Bidding b → b.best ≡ Some x → verdict_in t b ≡ Awarded a →
      (pos 0 <ℤ x.net) × (a ≡ record { job = x.job; price = offer t.step b.runner_up x; displaced = holder_at t x.job })
  -- Every summons ended in an award, a stale bid or an out, or is an open bid.
  pub balance : t.counts.summonses ≡ t.counts.awards + t.counts.stales + t.counts.outs + bidding t
  pub few_awards : t.counts.awards ≤ m.jobs * (m.ceiling + t.step)
  pub few_stales : t.counts.stales ≤ (m.carriers - 1) * t.counts.awards
