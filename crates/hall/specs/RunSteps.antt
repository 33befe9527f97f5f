-- How a run's queues and the books hold the state of a run, and what the private steps of a run promise.
use Rattle.std.specs.Prelude.{◌≡◌, ℕ, ◌+◌}
use Rattle.sources.specs.Meaning.{Meaning}
use Rattle.rings.specs.Held.{held}
use Rattle.auction.specs.Runs.{RunState}
use Rattle.hall.specs.declared.books.Books.{Books}
use Rattle.hall.specs.declared.books.queues.Queues.{Queues}
use Rattle.hall.specs.InBooks.{NotedOf, tally_in}

abbrev pub state_of : Books → Queues → ℕ → RunState
state_of b q n = record { line = held q.line; flight = held q.flight; tally = tally_in b; steps = n }

-- The books after are those of a start for the source, and with the queues they hold what the rule makes, after one step more.
pub record StepMade (m : Meaning) (rule : ℕ → RunState) (new : Books) (q : Queues) : Type 0 where
  pub noted : NotedOf m new
  pub made : (n : ℕ) → state_of new q (n + 1) ≡ rule n
