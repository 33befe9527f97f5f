-- The heading and the two tables that hold a meaning, and what filling accepts.
use Rattle.std.specs.Prelude.{◌≡◌, ℕ, ◌+◌, ◌≤◌, true, List, [], ◌∷◌, ◌++◌, map, length, is_ok, Ok, Result}
use Rattle.std.specs.List.{flat_map, AllByRecursion}
use Rattle.refusals.specs.declared.Refusal.{Refusal}
use Rattle.sources.specs.declared.records.Entry.{Entry}
use Rattle.sources.specs.declared.records.Heading.{Heading}
use Rattle.sources.specs.Meaning.{Meaning, Sound}
use Rattle.sources.specs.Sheets.{within_limits}

abbrev pub heading_of : Meaning → Heading
heading_of m = record { carriers = m.carriers; jobs = m.jobs; ceiling = m.ceiling }

abbrev pub entry_of : ℕ × ℕ → Entry
entry_of e = record { job = e.0; worth = e.1 }

-- Where rows end that stand one behind the other after so many entries.
abbrev pub ends_of : ℕ → List (List (ℕ × ℕ)) → List ℕ
ends_of used [] = []
ends_of used (row ∷ rows) = (used + length row) ∷ ends_of (used + length row) rows

-- The first row starts at 0, and each row ends where the next one starts.
abbrev pub starts_of : List (List (ℕ × ℕ)) → List ℕ
starts_of rows = 0 ∷ ends_of 0 rows

-- The entries of all rows, one row behind the other.
abbrev pub entries_of : List (List (ℕ × ℕ)) → List Entry
entries_of rows = flat_map (map entry_of) rows

-- The heading and the tables hold m: its numbers, the starts of its rows, and its entries, whatever follows them.
pub record TablesOf (m : Meaning) (h : Heading) (starts : List ℕ) (entries : List Entry) : Type 0 where
  pub numbers : h ≡ heading_of m
  pub starting : starts ≡ starts_of m.rows
  pub listing : (rest : List Entry) × (entries ≡ entries_of m.rows ++ rest)

-- A sound meaning within the limits of a sheet, with no entry of worth 0.
pub record Fillable (m : Meaning) : Type 0 where
  pub sound : Sound m
  pub limited : within_limits (heading_of m) ≡ true
  pub nonzero : AllByRecursion (AllByRecursion (λ e. 1 ≤ e.1)) m.rows

-- Filling accepts exactly the tables of such a meaning, and the sheet then means it.
pub record FillsExactly (h : Heading) (starts : List ℕ) (entries : List Entry) (answer : Result (Unit {0}) Refusal) (after : Meaning) : Type 0 where
  pub only : is_ok answer ≡ true → Fillable after × TablesOf after h starts entries
  pub every : (m : Meaning) → Fillable m → TablesOf m h starts entries → (answer ≡ Ok tt) × (after ≡ m)
