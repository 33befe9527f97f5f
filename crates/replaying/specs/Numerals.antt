-- A decimal number in a word.
use Rattle.std.specs.Prelude.{ℕ, ◌+◌, ◌-◌, ◌*◌, ◌^◌, cond, ◌&&◌, List, [], ◌∷◌, length, Some, None, Option, nat_lt}
use Rattle.std.specs.Str.{all_ascii_digits}

-- The value of digits that follow those of n. Byte 48 is `0`.
unfoldable pub value_on : ℕ → List ℕ → ℕ
value_on n [] = n
value_on n (d ∷ ds) = value_on (10 * n + (d - 48)) ds

-- One digit or more, nothing else, and a value below 2 ^ 64.
unfoldable pub number_in : List ℕ → Option ℕ
number_in word = cond (all_ascii_digits word && (nat_lt 0 (length word) && nat_lt (value_on 0 word) (2 ^ 64))) (Some (value_on 0 word)) None
