-- What the row of a carrier comes to.
use Rattle.std.specs.Prelude.{◌≡◌, ℕ, ◌<◌, ◌≤◌, List, length, get_or, Some, None, sum_by, Option, slice_index_or}
use Rattle.std.specs.Option.{option_map}
use Rattle.std.specs.List.{slice_get}
use Rattle.sources.specs.Meaning.{Meaning}

abbrev pub entry_job : List (ℕ × ℕ) → ℕ → ℕ
entry_job row k = (get_or row k (0, 0)).0

abbrev pub entry_worth : List (ℕ × ℕ) → ℕ → ℕ
entry_worth row k = (get_or row k (0, 0)).1

abbrev pub worths : List (ℕ × ℕ) → ℕ
worths row = sum_by (λ e. e.1) row

-- The sum of the worths of the row of carrier i; None past the last carrier.
abbrev pub row_total : Meaning → ℕ → Option ℕ
row_total m i = option_map worths (slice_get m.rows i)

-- The entry (job, worth) stands in the row and is worth more than 0, none there is worth more, and of those worth as
-- much none has a smaller job.
pub record Best (row : List (ℕ × ℕ)) (job worth : ℕ) : Type 0 where
  pub there : (k : ℕ) × (k < length row) × (slice_index_or row k (0, 0) ≡ (job, worth))
  pub some : 0 < worth
  pub greatest : (k : ℕ) → k < length row → entry_worth row k ≤ worth
  pub smallest : (k : ℕ) → k < length row → entry_worth row k ≡ worth → job ≤ entry_job row k

-- The best entry of a row, or none if nothing there is worth more than 0.
abbrev pub BestIn : List (ℕ × ℕ) → Option (ℕ × ℕ) → Type 0
BestIn row None = (k : ℕ) → k < length row → entry_worth row k ≡ 0
BestIn row (Some (job, worth)) = Best row job worth
