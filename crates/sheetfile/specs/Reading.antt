-- What comes of reading any bytes: a heading and rows, or the first refusal with its place.
-- Each part is read from a place on, and gives what is read and the place behind it.
use Rattle.std.specs.Prelude.{ℕ, zero, suc, ◌+◌, ◌-◌, Bool, true, cond, ◌&&◌, List, [], ◌∷◌, length, Ok, Err, Result, ◌==◌, nat_le, nat_lt}
use Rattle.std.specs.declared.ops.Bound.{Bound}
use Rattle.std.specs.declared.ops.Bound.TheVariants.{Included, Excluded, Unbounded}
use Rattle.refusals.specs.Faults.{fault_at, fault_of}
use Rattle.refusals.specs.declared.Fault.{Fault}
use Rattle.refusals.specs.declared.Refusal.TheVariants.{BytesFollow, CountsOutside, JobOutOfOrder, TooShort, TotalDiffers, WorthOutside}
use Rattle.numbers.specs.Reading.{read_at}
use Rattle.sources.specs.Limits.{most_carriers, most_jobs, highest_ceiling}
use Rattle.sources.specs.Meaning.{Meaning}
use Rattle.sources.specs.declared.records.Heading.{Heading}
use Rattle.sheetfile.specs.Layout.{Row, entries_in, meaning_of}
use Rattle.sheetfile.specs.Limits.{most_bytes, most_entries, most_starts}
use Rattle.sheetfile.specs.Steps.{and_then, prefixed, room_for}

-- A number is not below the start of a range, and not past its end.
abbrev pub from_start : Bound ℕ → ℕ → Bool
from_start (Included low) n = nat_le low n
from_start (Excluded low) n = nat_lt low n
from_start Unbounded n = true

abbrev pub up_to_end : Bound ℕ → ℕ → Bool
up_to_end (Included high) n = nat_le n high
up_to_end (Excluded high) n = nat_lt n high
up_to_end Unbounded n = true

abbrev pub bounded_by : Bound ℕ → Bound ℕ → ℕ → Bool
bounded_by start end n = from_start start n && up_to_end end n

-- A number that passes a test; one that does not is refused with a fault.
abbrev pub number_from : List ℕ → (ℕ → Bool) → Fault → ℕ → Result (ℕ × ℕ) Fault
number_from bs test fault at = and_then (read_at bs at) (λ n. cond (test n.0) (Ok n) (Err fault))

-- A number of the heading, from low up to high.
abbrev pub count_from : List ℕ → ℕ → ℕ → ℕ → Result (ℕ × ℕ) Fault
count_from bs low high at = number_from bs (λ n. nat_le low n && nat_le n high) (fault_of CountsOutside) at

-- The heading: each number is checked as it is read.
abbrev pub heading_from : List ℕ → ℕ → Result (Heading × ℕ) Fault
heading_from bs at =
    and_then (count_from bs 1 most_carriers at) (λ c.
    and_then (count_from bs 1 most_jobs c.1) (λ j.
    and_then (count_from bs 0 highest_ceiling j.1) (λ w.
    Ok (record { carriers = c.0; jobs = j.0; ceiling = w.0 }, w.1))))

-- A job, at least low and below the number of jobs.
abbrev pub job_from : List ℕ → Heading → ℕ → ℕ → Result (ℕ × ℕ) Fault
job_from bs h low at = number_from bs (λ j. nat_le low j && nat_lt j h.jobs) (fault_at JobOutOfOrder at) at

-- A worth, from 1 up to the ceiling.
abbrev pub worth_from : List ℕ → Heading → ℕ → Result (ℕ × ℕ) Fault
worth_from bs h at = number_from bs (λ w. nat_le 1 w && nat_le w h.ceiling) (fault_at WorthOutside at) at

abbrev pub entry_from : List ℕ → Heading → ℕ → ℕ → Result ((ℕ × ℕ) × ℕ) Fault
entry_from bs h low at =
    and_then (job_from bs h low at) (λ j.
    and_then (worth_from bs h j.1) (λ w.
    Ok ((j.0, w.0), w.1)))

-- So many entries, the first job at least low, each other above the one before it.
unfoldable pub entries_from : List ℕ → Heading → ℕ → ℕ → ℕ → Result (Row × ℕ) Fault
entries_from bs h zero low at = Ok ([], at)
entries_from bs h (suc n) low at = and_then (entry_from bs h low at) (λ e. prefixed (e.0 ∷ []) (entries_from bs h n (e.0.0 + 1) e.1))

-- A row: its count, then its entries.
unfoldable pub row_from : List ℕ → Heading → ℕ → Result (Row × ℕ) Fault
row_from bs h at = and_then (read_at bs at) (λ n. entries_from bs h n.0 0 n.1)

-- The heading, for a table of so many starts: there is one for each carrier, and one more.
abbrev pub heading_at : List ℕ → ℕ → ℕ → Result (Heading × ℕ) Fault
heading_at bs starts at = and_then (heading_from bs at) (λ h. room_for (fault_of TooShort) (h.0.carriers + 1) starts h)

-- The same at the beginning of a file.
abbrev pub heading_in : List ℕ → ℕ → Result (Heading × ℕ) Fault
heading_in bs starts = heading_at bs starts 0

-- A row after so many entries, for a table of so many in all. A row without entries needs no room there.
abbrev pub row_in : List ℕ → Heading → ℕ → ℕ → ℕ → Result (Row × ℕ) Fault
row_in bs h room used at = and_then (row_from bs h at) (λ r. room_for (fault_of TooShort) (length r.0) (room - used) r)

-- So many rows after so many entries.
unfoldable pub rows_from : List ℕ → Heading → ℕ → ℕ → ℕ → ℕ → Result (List Row × ℕ) Fault
rows_from bs h room zero used at = Ok ([], at)
rows_from bs h room (suc n) used at = and_then (row_in bs h room used at) (λ r. prefixed (r.0 ∷ []) (rows_from bs h room n (used + length r.0) r.1))

-- The closing total, which is the number of entries read, and nothing behind it.
abbrev pub closed_at : List ℕ → ℕ → ℕ → Result (Unit {0}) Fault
closed_at bs used at =
    and_then (read_at bs at) (λ n.
    cond (n.0 == used)
    (cond (nat_le (length bs) n.1) (Ok tt) (Err (fault_at BytesFollow n.1)))
    (Err (fault_at TotalDiffers at)))

-- The whole file, for tables of so many starts and so many entries.
unfoldable pub loaded : List ℕ → ℕ → ℕ → Result Meaning Fault
loaded bs starts room =
    and_then (heading_in bs starts) (λ h.
    and_then (rows_from bs h.0 room h.0.carriers 0 h.1) (λ r.
    and_then (closed_at bs (entries_in r.0) r.1) (λ _.
    Ok (meaning_of h.0 r.0))))

-- The whole file within the limits of the programs. Where it has more bytes, none of them is read.
abbrev pub loaded_within : List ℕ → Result Meaning Fault
loaded_within bs = cond (nat_lt most_bytes (length bs)) (Err (fault_of TooShort)) (loaded bs most_starts most_entries)
