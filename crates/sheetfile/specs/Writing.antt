-- What is written of a source.
use Rattle.std.specs.Prelude.{ℕ, cond, ltb, List, [], map, length, Err, filter, Result, nat_lt}
use Rattle.refusals.specs.Faults.{fault_of}
use Rattle.refusals.specs.declared.Fault.{Fault}
use Rattle.refusals.specs.declared.Refusal.{Refusal}
use Rattle.refusals.specs.declared.Refusal.TheVariants.{CountsOutside, TooShort}
use Rattle.sources.specs.Meaning.{Meaning}
use Rattle.sources.specs.Sheets.{within_limits}
use Rattle.sources.specs.Tables.{heading_of}
use Rattle.sheetfile.specs.Layout.{Row, entry_bytes, file_of}
use Rattle.sheetfile.specs.Reading.{loaded}
use Rattle.sheetfile.specs.Steps.{and_then, room_for, updated}
use Rattle.numbers.specs.Writing.{over}

-- The entries of a row that have a worth above 0.
abbrev pub nonzero : Row → Row
nonzero row = filter (λ e. ltb 0 e.1) row

-- A meaning without its zero entries.
abbrev pub without_zeros : Meaning → Meaning
without_zeros m = record { carriers = m.carriers; jobs = m.jobs; ceiling = m.ceiling; rows = map nonzero m.rows }

-- The bytes that are written of a source: its sheet file, without its zero entries.
abbrev pub written : Meaning → List ℕ
written m = file_of (without_zeros m)

-- What writing a source to so many bytes answers: 4 if its counts are outside the bounds, then 12 if its file is longer,
-- else how long it is.
abbrev pub write_answer : Meaning → ℕ → Result ℕ Refusal
write_answer m room = cond (within_limits (heading_of m)) (room_for TooShort (length (written m)) room (length (written m))) (Err CountsOutside)

-- The bytes that a step makes of out: they begin with the file, and are as they were behind it.
abbrev pub out_after : {E : Type 0} → Result ℕ E → List ℕ → List ℕ → List ℕ
out_after r out file = updated r out (λ _. over out 0 file)

-- What loading a file and writing it again answers: the file is as long as it was.
abbrev pub rewrite_answer : List ℕ → ℕ → ℕ → ℕ → Result ℕ Fault
rewrite_answer bs starts room out = and_then (loaded bs starts room) (λ _. room_for (fault_of TooShort) (length bs) out (length bs))

-- The bytes of an entry that is written; none of an entry of worth 0.
abbrev pub nonzero_bytes : ℕ × ℕ → List ℕ
nonzero_bytes e = cond (nat_lt 0 e.1) (entry_bytes e) []
