-- What carriers and jobs at places mean as a source: the nearer a job, the more it is worth.
use Rattle.std.specs.Prelude.{ℕ, ◌+◌, ◌-◌, ◌*◌, List, map, length, slice_index_or}
use Rattle.std.specs.List.{range_with_len}
use Rattle.sources.specs.declared.places.Place.{Place}
use Rattle.sources.specs.Meaning.{Meaning}

-- How far two numbers lie apart; one of the two differences stops at 0.
abbrev pub apart : ℕ → ℕ → ℕ
apart a b = (a - b) + (b - a)

abbrev pub travel_of : Place → Place → ℕ
travel_of p q = 4 * apart p.aisle q.aisle + 7 * apart p.level q.level

-- The reach less the travel; the difference stops at 0, where the travel is not below the reach.
abbrev pub worth_between : ℕ → Place → Place → ℕ
worth_between reach p q = reach - travel_of p q

abbrev pub no_place : Place
no_place = record { aisle = 0; level = 0 }

-- An entry for each job.
abbrev pub position_row : ℕ → List Place → Place → List (ℕ × ℕ)
position_row reach jobs p = map (λ j. (j, worth_between reach p (slice_index_or jobs j no_place))) (range_with_len 0 (length jobs))

abbrev pub positions_of : List Place → List Place → ℕ → Meaning
positions_of carriers jobs reach = record {
  carriers = length carriers;
  jobs = length jobs;
  ceiling = reach;
  rows = map (position_row reach jobs) carriers;
}
