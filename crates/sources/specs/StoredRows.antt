-- What a source says of a row that it makes of entries in a table.
use Rattle.std.specs.Prelude.{◌≡◌, ℕ, ◌<◌, Bool, true, false, List, length, slice_index_or}
use Rattle.sources.specs.declared.records.Entry.{Entry}
use Rattle.sources.specs.Sheets.{no_entry}

-- The entries are those that are stored for a row of so many, each for its place; where the row is quick, they are stored for the
-- quick way too.
pub record RowStored (At : ℕ → Bool → Entry → Type 0) (entries : List Entry) (quick : Bool) (count : ℕ) : Type 0 where
  pub all : length entries ≡ count
  pub exactly : (k : ℕ) → k < length entries → At k false (slice_index_or entries k no_entry)
  pub quickly : quick ≡ true → (k : ℕ) → k < length entries → At k true (slice_index_or entries k no_entry)
