use Rattle.std.specs.Prelude.{◌≡◌, ℕ, List, [], ◌∷◌, Ok, Err}
use Rattle.refusals.specs.declared.Refusal.TheVariants.{NumberCut}
use Rattle.refusals.specs.Faults.{fault_at}
use Rattle.sources.specs.Meaning.{Meaning}
use Rattle.sources.specs.Tables.{heading_of}
use Rattle.sheetfile.specs.Layout.{file_of}
use Rattle.sheetfile.specs.Reading.{loaded}
use Rattle.worked.specs.declared.SheetCases.{SheetCases}

-- Three carriers and three jobs: rows 5 10 1, 4 11 3 and 5 14 8.
abbrev pub three_by_three : Meaning
three_by_three = record {
  carriers = 3;
  jobs = 3;
  ceiling = 14;
  rows = ((0, 5) ∷ (1, 10) ∷ (2, 1) ∷ []) ∷ ((0, 4) ∷ (1, 11) ∷ (2, 3) ∷ []) ∷ ((0, 5) ∷ (1, 14) ∷ (2, 8) ∷ []) ∷ [];
}

-- Its bytes behind the first.
abbrev pub behind_first : List ℕ
behind_first = 3 ∷ 14 ∷ 3 ∷ 0 ∷ 5 ∷ 1 ∷ 10 ∷ 2 ∷ 1 ∷ 3 ∷ 0 ∷ 4 ∷ 1 ∷ 11 ∷ 2 ∷ 3 ∷ 3 ∷ 0 ∷ 5 ∷ 1 ∷ 14 ∷ 2 ∷ 8 ∷ 9 ∷ []

-- The worked sheet: its 25 bytes are its file and are loaded as it; with a first byte of 4 the load is refused with 1 at
-- place 25.
pub record WorkedSheet : Type 0 where
  pub file : file_of three_by_three ≡ 3 ∷ behind_first
  pub loads : loaded (3 ∷ behind_first) 4 9 ≡ Ok three_by_three
  pub one_carrier_more : loaded (4 ∷ behind_first) 5 9 ≡ Err (fault_at NumberCut 25)

-- What is loaded of these bytes.
abbrev pub sheet_cases : SheetCases
sheet_cases = record { whole = Ok (heading_of three_by_three); one_carrier_more = Err (fault_at NumberCut 25) }
