-- What the entries of a grid come to, and what its pairings are worth.
use Rattle.std.specs.Prelude.{◌≡◌, ℕ, ◌+◌, ◌/◌, ◌%◌, ◌^◌, ◌-◌, ◌<◌, ◌≤◌, Bool, true, false, cond, ◌==◌, ◌||◌, List, [], ◌∷◌, min, max, nat_lt, slice_index, slice_index_or, slice_set, Option, Some, None}
use Rattle.std.specs.Option.{option_map, unwrap_or}
use Rattle.grids.specs.declared.Grid.{Grid}

-- What a job is worth to a carrier; 0 where there is no such carrier or job.
abbrev pub grid_worth : List (List ℕ) → ℕ → ℕ → ℕ
grid_worth rows i j = slice_index (slice_index_or rows i []) j

-- Sums and products stop at the largest number of 64 bits.
abbrev pub capped : ℕ → ℕ
capped n = min n (2 ^ 64 - 1)

-- A worth below a floor counts as 0.
abbrev pub floored : ℕ → ℕ → ℕ
floored floor n = cond (nat_lt n floor) 0 n

-- The worth of a pairing, to which the jobs are still free that are not taken: the number's digits in base five give the carriers,
-- one after the other, a job each, or none at 4. None if a carrier gets a job that it may not take, or that is taken.
abbrev pub pairing_worth : List (List ℕ) → ℕ → List Bool → Option ℕ
pairing_worth [] n taken = Some 0
pairing_worth (row ∷ rows) n taken = cond (n % 5 == 4)
    (pairing_worth rows (n / 5) taken)
    (cond (slice_index row (n % 5) == 0 || slice_index_or taken (n % 5) true) None
    (option_map (λ w. capped (w + slice_index row (n % 5))) (pairing_worth rows (n / 5) (slice_set taken (n % 5) true))))

-- The same with all jobs free, and 0 for what is no pairing.
abbrev pub worth_numbered : List (List ℕ) → ℕ → ℕ
worth_numbered rows n = unwrap_or (pairing_worth rows n (false ∷ (false ∷ (false ∷ (false ∷ []))))) 0

-- The most that any of the 625 pairings is worth.
pub record IsBest (rows : List (List ℕ)) (most : ℕ) : Type 0 where
  pub reached : (n : ℕ) × (n < 625) × (worth_numbered rows n ≡ most)
  pub above : (n : ℕ) → n < 625 → worth_numbered rows n ≤ most

-- A row of worths up to the ceiling, and of 0 from so many jobs on.
pub record RowWithin (jobs ceiling : ℕ) (row : List ℕ) : Type 0 where
  pub low : (j : ℕ) → slice_index row j ≤ ceiling
  pub empty : (j : ℕ) → jobs ≤ j → slice_index row j ≡ 0

-- A grid of one to four carriers and jobs, with worths up to its ceiling, which is at most this; and with 0 outside them.
pub record Within (most : ℕ) (g : Grid) : Type 0 where
  pub carriers : (1 ≤ g.carriers) × (g.carriers ≤ 4)
  pub jobs : (1 ≤ g.jobs) × (g.jobs ≤ 4)
  pub ceiling : (1 ≤ g.ceiling) × (g.ceiling ≤ max most 1)
  pub rows : (i : ℕ) → RowWithin g.jobs g.ceiling (slice_index_or g.worths i [])
  pub empty : (i j : ℕ) → g.carriers ≤ i → grid_worth g.worths i j ≡ 0
