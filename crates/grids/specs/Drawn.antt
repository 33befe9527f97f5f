-- The grid that is drawn from a state of a draw, and the state after it.
use Rattle.std.specs.Prelude.{ℕ, zero, suc, ◌+◌, Bool, cond, ◌==◌, List, [], ◌∷◌, ◌++◌, nat_lt}
use Rattle.grids.specs.Xorshift.{drawn, next}
use Rattle.grids.specs.declared.Grid.{Grid}

-- A worth: one time in five it is left out, else it is one from 1 up to the ceiling.
abbrev pub worth_drawn : ℕ → ℕ → ℕ × ℕ
worth_drawn ceiling s = cond (drawn 5 (next s) == 0) (0, next s) (1 + drawn ceiling (next (next s)), next (next s))

-- The first n places of a row of so many jobs. Behind them nothing is drawn, and places have 0.
abbrev pub places_drawn : ℕ → ℕ → ℕ → ℕ → List ℕ × ℕ
places_drawn zero jobs ceiling s = ([], s)
places_drawn (suc n) jobs ceiling s =
    let before = places_drawn n jobs ceiling s in
    let w = cond (nat_lt n jobs) (worth_drawn ceiling before.1) (0, before.1) in
    (before.0 ++ w.0 ∷ [], w.1)

-- The row of a carrier. Where there is none, nothing is drawn, and each place has 0.
abbrev pub row_drawn : Bool → ℕ → ℕ → ℕ → List ℕ × ℕ
row_drawn there jobs ceiling s = cond there (places_drawn 4 jobs ceiling s) (0 ∷ (0 ∷ (0 ∷ (0 ∷ []))), s)

-- The first n rows of a grid of so many carriers and jobs.
abbrev pub rows_drawn : ℕ → ℕ → ℕ → ℕ → ℕ → List (List ℕ) × ℕ
rows_drawn zero carriers jobs ceiling s = ([], s)
rows_drawn (suc n) carriers jobs ceiling s =
    let before = rows_drawn n carriers jobs ceiling s in
    let row = row_drawn (nat_lt n carriers) jobs ceiling before.1 in
    (before.0 ++ row.0 ∷ [], row.1)

-- One to four carriers, as many jobs, and a ceiling of at most this, or of 1; then the rows.
unfoldable pub grid_drawn : ℕ → ℕ → Grid × ℕ
grid_drawn most s =
    let carriers = 1 + drawn 4 (next s) in
    let jobs = 1 + drawn 4 (next (next s)) in
    let ceiling = 1 + drawn most (next (next (next s))) in
    let rows = rows_drawn 4 carriers jobs ceiling (next (next (next s))) in
    (record { carriers = carriers; jobs = jobs; ceiling = ceiling; worths = rows.0 }, rows.1)
