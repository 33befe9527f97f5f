-- The limits of a file that the programs and the call for C hosts read.
use Rattle.std.specs.Prelude.{ℕ, ◌+◌}
use Rattle.sources.specs.Limits.{most_carriers}

abbrev pub most_bytes : ℕ
most_bytes = 32768

abbrev pub most_entries : ℕ
most_entries = 4096

-- A row start for each carrier, and one more.
abbrev pub most_starts : ℕ
most_starts = most_carriers + 1
