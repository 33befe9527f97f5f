-- Which refusal a heading and two tables meet when a sheet is filled from them, and what the sheet then means.
use Rattle.std.specs.Prelude.{ℕ, zero, suc, ◌+◌, ◌-◌, Bool, true, cond, ◌&&◌, ◌||◌, List, [], map, length, take, drop, Some, None, Ok, Err, Option, Result, ◌==◌, nat_le, nat_lt, slice_index, slice_index_or}
use Rattle.std.specs.Option.{option_or}
use Rattle.std.specs.List.{list_any, range_with_len}
use Rattle.refusals.specs.declared.Refusal.{Refusal}
use Rattle.refusals.specs.declared.Refusal.TheVariants.{CountsOutside, JobOutOfOrder, WorthOutside, StartsUnfit}
use Rattle.sources.specs.declared.records.Entry.{Entry}
use Rattle.sources.specs.declared.records.Heading.{Heading}
use Rattle.sources.specs.Limits.{most_carriers, most_jobs, highest_ceiling}
use Rattle.sources.specs.Meaning.{Meaning}

-- There is a carrier and a job, and neither they nor the ceiling pass the limits of a sheet.
abbrev pub within_limits : Heading → Bool
within_limits h = (nat_le 1 h.carriers && nat_le h.carriers most_carriers) && ((nat_le 1 h.jobs && nat_le h.jobs most_jobs) && nat_le h.ceiling highest_ceiling)

-- The heading of a new sheet.
abbrev pub blank : Heading → Bool
blank h = h.carriers == 0 && (h.jobs == 0 && h.ceiling == 0)

-- None of the first n starts is above the next one.
abbrev pub never_falls : List ℕ → ℕ → Bool
never_falls starts zero = true
never_falls starts (suc n) = nat_le (slice_index starts n) (slice_index starts (n + 1)) && never_falls starts n

-- The place where the last row ends.
abbrev pub last_of : Heading → List ℕ → ℕ
last_of h starts = slice_index starts h.carriers

-- Row starts are carriers + 1 in number, begin with 0, never fall, and don't pass the end of so many entries.
abbrev pub starts_good : Heading → List ℕ → ℕ → Bool
starts_good h starts count = (length starts == h.carriers + 1 && slice_index starts 0 == 0) && (never_falls starts h.carriers && nat_le (last_of h starts) count)

-- Some row starts at k.
abbrev pub starts_at : List ℕ → ℕ → Bool
starts_at starts k = list_any (λ s. s == k) starts

abbrev pub no_entry : Entry
no_entry = record { job = 0; worth = 0 }

abbrev pub job_at : List Entry → ℕ → ℕ
job_at es k = (slice_index_or es k no_entry).job

abbrev pub worth_at : List Entry → ℕ → ℕ
worth_at es k = (slice_index_or es k no_entry).worth

-- The entry at k begins its row, or its job is above that of the entry before it.
abbrev pub in_order : List ℕ → List Entry → ℕ → Bool
in_order starts es k = starts_at starts k || nat_lt (job_at es (k - 1)) (job_at es k)

-- What is refused with r unless a test passes; else the rest decides.
abbrev pub unless : Bool → Refusal → Option Refusal → Option Refusal
unless test r rest = cond test rest (Some r)

-- What the entry at k is refused for: its job is checked, then its worth.
abbrev pub refusal_at : Heading → List ℕ → List Entry → ℕ → Option Refusal
refusal_at h starts es k =
    unless (nat_lt (job_at es k) h.jobs && in_order starts es k) JobOutOfOrder
    (unless (nat_le 1 (worth_at es k) && nat_le (worth_at es k) h.ceiling) WorthOutside None)

-- The first refusal among the n places from k on.
abbrev pub first_refusal : (ℕ → Option Refusal) → ℕ → ℕ → Option Refusal
first_refusal f k zero = None
first_refusal f k (suc n) = option_or (f k) (first_refusal f (k + 1) n)

-- The entries that stand in a row.
abbrev pub entries_in_rows : Heading → List ℕ → List Entry → List Entry
entries_in_rows h starts entries = take (last_of h starts) entries

-- What the first bad entry is refused for.
abbrev pub entry_refusal : Heading → List ℕ → List Entry → Option Refusal
entry_refusal h starts es = first_refusal (refusal_at h starts es) 0 (length es)

-- What filling is refused for: the counts are checked, then the row starts, then every entry of every row in order.
abbrev pub fill_refusal : Heading → List ℕ → List Entry → Option Refusal
fill_refusal h starts entries =
    unless (within_limits h) CountsOutside
    (unless (starts_good h starts (length entries)) StartsUnfit
    (entry_refusal h starts (entries_in_rows h starts entries)))

abbrev pub or_refused : Option Refusal → Result (Unit {0}) Refusal
or_refused None = Ok tt
or_refused (Some r) = Err r

-- What filling answers.
abbrev pub fill_verdict : Heading → List ℕ → List Entry → Result (Unit {0}) Refusal
fill_verdict h starts entries = or_refused (fill_refusal h starts entries)

abbrev pub pair_of : Entry → ℕ × ℕ
pair_of e = (e.job, e.worth)

-- The row of carrier i begins at start i and ends before start i + 1.
abbrev pub sheet_row : List ℕ → List Entry → ℕ → List Entry
sheet_row starts entries i = take (slice_index starts (i + 1) - slice_index starts i) (drop (slice_index starts i) entries)

abbrev pub sheet_rows : Heading → List ℕ → List Entry → List (List Entry)
sheet_rows h starts entries = map (sheet_row starts entries) (range_with_len 0 h.carriers)

-- The entry at place k of that row.
abbrev pub sheet_entry : Heading → List ℕ → List Entry → ℕ → ℕ → Entry
sheet_entry h starts entries i k = slice_index_or (slice_index_or (sheet_rows h starts entries) i []) k no_entry

-- What a heading and two tables mean.
abbrev pub sheet_of : Heading → List ℕ → List Entry → Meaning
sheet_of h starts entries = record {
  carriers = h.carriers;
  jobs = h.jobs;
  ceiling = h.ceiling;
  rows = map (map pair_of) (sheet_rows h starts entries);
}
