-- What is printed of a sheet file.
use Rattle.std.specs.Prelude.{ℕ, ◌+◌, List, [], ◌∷◌, ◌++◌, codes, decimal}
use Rattle.std.specs.List.{flat_map}
use Rattle.refusals.specs.declared.Fault.{Fault}
use Rattle.refusals.specs.Faults.{fault_text}
use Rattle.sources.specs.Meaning.{Meaning}
use Rattle.texts.specs.Telling.{newline}
use Rattle.sheetfile.specs.Layout.{Row, entries_in}

-- The first line, as `carriers 3 jobs 3 ceiling 14`.
abbrev pub heading_line : Meaning → List ℕ
heading_line m =
    codes "carriers " ++ (decimal m.carriers ++ (codes " jobs " ++ (decimal m.jobs ++ (codes " ceiling " ++ (decimal m.ceiling ++ newline)))))

-- An entry, as ` 1=10`: its job and its worth.
abbrev pub entry_text : ℕ × ℕ → List ℕ
entry_text e = codes " " ++ (decimal e.0 ++ (codes "=" ++ decimal e.1))

-- The line of a carrier, as `0: 0=5 1=10 2=1`.
abbrev pub row_line : ℕ → Row → List ℕ
row_line i row = (decimal i ++ codes ":") ++ (flat_map entry_text row ++ newline)

-- The lines of carriers that are numbered from i on.
abbrev pub row_lines : ℕ → List Row → List ℕ
row_lines i [] = []
row_lines i (row ∷ rows) = row_line i row ++ row_lines (i + 1) rows

-- The last line, as `9 entries in 25 bytes, the same when written again`.
abbrev pub last_line : ℕ → ℕ → List ℕ
last_line count size = decimal count ++ (codes " entries in " ++ (decimal size ++ (codes " bytes, the same when written again" ++ newline)))

-- What is printed of a sheet that has so many bytes.
abbrev pub sheet_text : Meaning → ℕ → List ℕ
sheet_text m size = heading_line m ++ (row_lines 0 m.rows ++ last_line (entries_in m.rows) size)

-- What is printed of a file that is refused.
abbrev pub refused_line : Fault → List ℕ
refused_line f = codes "refused " ++ (fault_text f ++ newline)
