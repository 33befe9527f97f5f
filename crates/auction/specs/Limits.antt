-- The limits of an auction. Step, lanes and depth are 1 at least.
use Rattle.std.specs.Prelude.{ℕ, ◌^◌}

abbrev pub highest_step : ℕ
highest_step = 2 ^ 36

abbrev pub most_lanes : ℕ
most_lanes = 32

abbrev pub greatest_depth : ℕ
greatest_depth = 128
