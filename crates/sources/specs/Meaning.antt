-- What a source means: how many carriers and jobs it has, its ceiling, and a row of (job, worth) pairs for each carrier.
use Rattle.std.specs.Prelude.{◌≡◌, ℕ, ◌+◌, ◌<◌, ◌≤◌, cond, List, [], ◌∷◌, length, Option, ◌==◌, slice_index_or, drop}
use Rattle.std.specs.Option.{option_map, option_and_then}
use Rattle.std.specs.List.{slice_get, AllByRecursion}
use Rattle.sources.specs.Limits.{highest_worth}

pub record Meaning : Type 0 where
  pub carriers : ℕ
  pub jobs : ℕ
  pub ceiling : ℕ
  pub rows : List (List (ℕ × ℕ))

-- No carriers, no jobs and ceiling 0.
abbrev pub empty_meaning : Meaning
empty_meaning = record { carriers = 0; jobs = 0; ceiling = 0; rows = [] }

-- Jobs rise strictly along the row, the first at least low.
abbrev pub Rising : ℕ → List (ℕ × ℕ) → Type 0
Rising low [] = Unit {0}
Rising low (e ∷ es) = (low ≤ e.0) × Rising (e.0 + 1) es

-- What holds of every source: a row for each carrier and no other, jobs that rise along each row and are below the
-- number of jobs, no worth above the ceiling, and no ceiling above the highest worth.
pub record Sound (m : Meaning) : Type 0 where
  pub counted : length m.rows ≡ m.carriers
  pub rising : AllByRecursion (Rising 0) m.rows
  pub known : AllByRecursion (AllByRecursion (λ e. e.0 < m.jobs)) m.rows
  pub within : AllByRecursion (AllByRecursion (λ e. e.1 ≤ m.ceiling)) m.rows
  pub small : m.ceiling ≤ highest_worth

-- How many entries the row of carrier i has; None past the last carrier.
abbrev pub row_len : Meaning → ℕ → Option ℕ
row_len m i = option_map length (slice_get m.rows i)

-- The pair of job and worth at place k of the row of carrier i; None where there is no such row or place.
abbrev pub entry_at : Meaning → ℕ → ℕ → Option (ℕ × ℕ)
entry_at m i k = option_and_then (λ row. slice_get row k) (slice_get m.rows i)

-- The row of carrier i; no entries past the last carrier.
abbrev pub row_of : Meaning → ℕ → List (ℕ × ℕ)
row_of m i = slice_index_or m.rows i []

-- What stands in that row behind its first k entries.
abbrev pub row_behind : Meaning → ℕ → ℕ → List (ℕ × ℕ)
row_behind m i k = drop k (row_of m i)

-- What the job j is worth in a row; 0 if it has no entry there, so that an entry of worth 0 counts as none.
abbrev pub worth_in : List (ℕ × ℕ) → ℕ → ℕ
worth_in [] j = 0
worth_in (e ∷ row) j = cond (e.0 == j) e.1 (worth_in row j)

-- What the job j is worth to carrier i.
abbrev pub worth_of : Meaning → ℕ → ℕ → ℕ
worth_of m i j = worth_in (row_of m i) j
