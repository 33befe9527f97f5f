-- Marsaglia's xorshift of 64 bits, by the shifts 13, 7 and 17.
use Rattle.std.specs.Prelude.{ℕ, ◌*◌, ◌/◌, ◌%◌, ◌^◌, max, bit_xor}

-- A state and itself moved to the left by so many bits, of which 64 stay; and moved to the right.
abbrev pub with_left : ℕ → ℕ → ℕ
with_left k x = bit_xor x (x * 2 ^ k % 2 ^ 64)

abbrev pub with_right : ℕ → ℕ → ℕ
with_right k x = bit_xor x (x / 2 ^ k)

-- The state after one step.
unfoldable pub next : ℕ → ℕ
next x = with_left 17 (with_right 7 (with_left 13 x))

-- What is drawn below a bound once that state is reached: 0 where the bound is 0.
abbrev pub drawn : ℕ → ℕ → ℕ
drawn bound state = state % max bound 1
