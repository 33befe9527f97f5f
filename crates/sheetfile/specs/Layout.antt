-- The layout of a sheet file: the bytes of a heading and its rows, and the bounds that they keep to.
use Rattle.std.specs.Prelude.{◌≡◌, ℕ, ◌+◌, ◌≤◌, List, [], ◌∷◌, ◌++◌, length}
use Rattle.std.specs.List.{flat_map}
use Rattle.numbers.specs.Groups.{encoded}
use Rattle.sources.specs.Meaning.{Meaning}
use Rattle.sources.specs.Tables.{Fillable, heading_of}
use Rattle.sources.specs.declared.records.Heading.{Heading}

-- The entries of one carrier: pairs of job and worth.
abbrev pub Row : Type 0
Row = List (ℕ × ℕ)

-- What a heading and its rows mean.
abbrev pub meaning_of : Heading → List Row → Meaning
meaning_of h rows = record { carriers = h.carriers; jobs = h.jobs; ceiling = h.ceiling; rows = rows }

-- How many entries some rows have in all.
abbrev pub entries_in : List Row → ℕ
entries_in [] = 0
entries_in (row ∷ rows) = length row + entries_in rows

abbrev pub heading_bytes : Heading → List ℕ
heading_bytes h = encoded h.carriers ++ (encoded h.jobs ++ encoded h.ceiling)

abbrev pub entry_bytes : ℕ × ℕ → List ℕ
entry_bytes e = encoded e.0 ++ encoded e.1

abbrev pub row_bytes : Row → List ℕ
row_bytes row = encoded (length row) ++ flat_map entry_bytes row

-- The three numbers of the heading; then, row by row, the count of its entries and their jobs and worths; then how many
-- entries there are in all.
-- Every number is in its shortest form.
abbrev pub file_of : Meaning → List ℕ
file_of m = heading_bytes (heading_of m) ++ (flat_map row_bytes m.rows ++ encoded (entries_in m.rows))

-- The bytes are the sheet file of m, and m keeps to the bounds: a row for each carrier, carriers 1 to 128, jobs 1 to 256,
-- a ceiling of at most 2^36, jobs that rise strictly along a row and are below the number of jobs, worths of 1 up to the
-- ceiling. No number then has more than six groups.
pub record SheetFile (bytes : List ℕ) (m : Meaning) : Type 0 where
  pub bounded : Fillable m
  pub bytes_are : bytes ≡ file_of m

-- Tables of so many starts and so many entries are long enough for m.
pub record LongEnough (m : Meaning) (starts room : ℕ) : Type 0 where
  pub starts_fit : m.carriers + 1 ≤ starts
  pub entries_fit : entries_in m.rows ≤ room
