-- What is said of a carrier's standing, and of the bid that it keeps. A function names the standings of its kind; one clause takes the others.
use Rattle.std.specs.Prelude.{◌≡◌, ℕ, ◌+◌, ◌-◌, ◌/◌, ◌<◌, ◌≤◌, Bool, true, false, List, [], ◌∷◌, length, pos, ◌-ℤ◌, ◌≤ℤ◌, Some, None, Option, ◌==◌, int_lt, slice_index}
use Rattle.sources.specs.Meaning.{Meaning, row_of}
use Rattle.auction.specs.declared.bidding.Best.{Best}
use Rattle.auction.specs.declared.bidding.InFlight.{InFlight}
use Rattle.auction.specs.declared.bidding.Standing.{Standing}
use Rattle.auction.specs.declared.bidding.Standing.TheVariants.{Waiting, Bidding, Served, Out}
use Rattle.auction.specs.Bids.{natural}

-- ---- which it is

abbrev pub is_waiting : Standing → Bool
is_waiting Waiting = true
is_waiting _ = false

abbrev pub is_bidding : Standing → Bool
is_bidding (Bidding b) = true
is_bidding _ = false

abbrev pub is_served : Standing → Bool
is_served (Served h) = true
is_served _ = false

abbrev pub is_out : Standing → Bool
is_out Out = true
is_out _ = false

-- Served or out.
abbrev pub ServedOrOut : Standing → Type 0
ServedOrOut (Served h) = Unit {0}
ServedOrOut Out = Unit {0}
ServedOrOut _ = ⊥

-- ---- the job of who is served

abbrev pub job_served : Standing → Option ℕ
job_served (Served h) = Some h.job
job_served _ = None

-- The carrier is served with the job j.
abbrev pub holds_job : ℕ → Standing → Bool
holds_job j (Served h) = h.job == j
holds_job j _ = false

-- What the job is worth to the carrier.
abbrev pub worth_served : Standing → ℕ
worth_served (Served h) = h.worth
worth_served _ = 0

-- ---- its place in a run: who waits is in line, and who bids in flight

abbrev pub if_waiting : ℕ → Standing → List ℕ
if_waiting i Waiting = i ∷ []
if_waiting i _ = []

abbrev pub in_flight : ℕ → ℕ → InFlight
in_flight i left = record { carrier = i; looks_left = left }

-- How many looks of so many lanes go through n entries.
abbrev pub looks_for : ℕ → ℕ → ℕ
looks_for lanes n = (n + (lanes - 1)) / lanes

abbrev pub if_bidding : Meaning → ℕ → ℕ → Standing → List InFlight
if_bidding m lanes i (Bidding b) = in_flight i (looks_for lanes (length (row_of m i) - b.looked)) ∷ []
if_bidding m lanes i _ = []

-- ---- what holds of it in every tally that calls lead to

-- The best of a bid: its job is known, its worth under the ceiling, its net at most its worth, and the runner-up r no more than that net.
pub record BestSound (jobs ceiling r : ℕ) (x : Best) : Type 0 where
  pub known : x.job < jobs
  pub low_worth : x.worth ≤ ceiling
  pub low_net : x.net ≤ℤ pos x.worth
  pub low_runner : r ≤ natural x.net

abbrev pub BidSound : ℕ → ℕ → ℕ → Option Best → Type 0
BidSound jobs ceiling r None = r ≡ 0
BidSound jobs ceiling r (Some x) = BestSound jobs ceiling r x

abbrev pub StandingSound : ℕ → ℕ → Standing → Type 0
StandingSound jobs ceiling (Bidding b) = BidSound jobs ceiling b.runner_up b.best
StandingSound jobs ceiling (Served h) = h.worth ≤ ceiling
StandingSound jobs ceiling _ = Unit {0}

-- The price of the best job is above the one at which it was seen, which is worth minus net.
abbrev pub best_risen : List ℕ → Option Best → Bool
best_risen prices None = false
best_risen prices (Some x) = int_lt (pos x.worth -ℤ x.net) (pos (slice_index prices x.job))

abbrev pub is_risen : List ℕ → Standing → Bool
is_risen prices (Bidding b) = best_risen prices b.best
is_risen prices _ = false
