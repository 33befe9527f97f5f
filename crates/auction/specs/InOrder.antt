-- What holds of line and flight during a run: each waiting carrier is once in the line, each bidding one once in the flight, and nobody else is in either.
use Rattle.std.specs.Prelude.{◌≡◌, ℕ, ◌-◌, ◌≤◌, cond, List, length, count_by, nat_eq, slice_index_or}
use Rattle.std.specs.List.{AllByRecursion}
use Rattle.sources.specs.Meaning.{Meaning, row_of}
use Rattle.auction.specs.declared.bidding.Bid.{Bid}
use Rattle.auction.specs.declared.bidding.Counts.{Counts}
use Rattle.auction.specs.declared.bidding.InFlight.{InFlight}
use Rattle.auction.specs.declared.bidding.Standing.{Standing}
use Rattle.auction.specs.declared.bidding.Standing.TheVariants.{Bidding, Out}
use Rattle.auction.specs.Standings.{is_waiting, is_bidding, looks_for}
use Rattle.auction.specs.Runs.{RunState}

-- How many elements have the number k.
abbrev pub times_in : {X : Type 0} → (X → ℕ) → ℕ → List X → ℕ
times_in number k xs = count_by (λ x. nat_eq (number x) k) xs

-- The looks left are those that go through what the bid has not looked at.
abbrev pub Due : Meaning → ℕ → List Standing → InFlight → Type 0
Due m lanes ss f = (b : Bid) × (slice_index_or ss f.carrier Out ≡ Bidding b) × (f.looks_left ≡ looks_for lanes (length (row_of m f.carrier) - b.looked))

pub record InOrder (m : Meaning) (lanes : ℕ) (line : List ℕ) (flight : List InFlight) (ss : List Standing) : Type 0 where
  pub waits : (k : ℕ) → times_in (λ i. i) k line ≡ cond (is_waiting (slice_index_or ss k Out)) 1 0
  pub bids : (k : ℕ) → times_in (λ f. f.carrier) k flight ≡ cond (is_bidding (slice_index_or ss k Out)) 1 0
  pub due : AllByRecursion (Due m lanes ss) flight

abbrev pub Ordered : Meaning → RunState → Type 0
Ordered m r = InOrder m r.tally.lanes r.line r.flight r.tally.standings

-- No count has fallen.
pub record Grown (before after : Counts) : Type 0 where
  pub summonses_grow : before.summonses ≤ after.summonses
  pub awards_grow : before.awards ≤ after.awards
  pub stales_grow : before.stales ≤ after.stales
  pub outs_grow : before.outs ≤ after.outs
