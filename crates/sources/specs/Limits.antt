-- The limits of a sheet, and of any source.
use Rattle.std.specs.Prelude.{ℕ, ◌^◌}

abbrev pub most_carriers : ℕ
most_carriers = 128

abbrev pub most_jobs : ℕ
most_jobs = 256

abbrev pub highest_ceiling : ℕ
highest_ceiling = 2 ^ 36

-- No source has a higher ceiling, and so no worth above this.
abbrev pub highest_worth : ℕ
highest_worth = 2 ^ 60
