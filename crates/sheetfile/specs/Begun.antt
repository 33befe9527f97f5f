-- A sheet file that is read in part.
use Rattle.std.specs.Prelude.{◌≡◌, ℕ, ◌<◌, ◌≤◌, true, List, ◌++◌, drop, slice_index}
use Rattle.std.specs.List.{flat_map, AllByRecursion}
use Rattle.sources.specs.Meaning.{Sound}
use Rattle.sources.specs.Sheets.{within_limits}
use Rattle.sources.specs.declared.records.Heading.{Heading}
use Rattle.sheetfile.specs.Layout.{Row, entries_in, heading_bytes, row_bytes}

-- The bytes before a place are those of a heading and of its first rows, so many rows with so many entries in all, which
-- keep to the bounds.
pub record Begun (bytes : List ℕ) (at : ℕ) (h : Heading) (count used : ℕ) : Type 0 where
  pub rows : List Row
  pub small : (i : ℕ) → slice_index bytes i < 256
  pub limited : within_limits h ≡ true
  pub sound : Sound (record { carriers = count; jobs = h.jobs; ceiling = h.ceiling; rows = rows })
  pub nonzero : AllByRecursion (AllByRecursion (λ e. 1 ≤ e.1)) rows
  pub few : count ≤ h.carriers
  pub entries : entries_in rows ≡ used
  pub bytes_are : bytes ≡ heading_bytes h ++ (flat_map row_bytes rows ++ drop at bytes)
