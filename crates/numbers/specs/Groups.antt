use Rattle.std.specs.Prelude.{ℕ, zero, suc, ◌+◌, ◌-◌, ◌*◌, ◌/◌, ◌%◌, cond, List, [], ◌∷◌, Ok, Err, Result, ◌==◌, nat_lt}
use Rattle.refusals.specs.declared.Refusal.{Refusal}
use Rattle.refusals.specs.declared.Refusal.TheVariants.{NumberCut, NumberTooLong, NumberPadded}

-- The groups of seven bits of a number, the lowest first, one a byte, and at most k of them.
-- 128 is added to a group that another follows.
unfoldable pub groups : ℕ → ℕ → List ℕ
groups zero n = []
groups (suc k) n = cond (nat_lt n 128) (n ∷ []) (let more = groups k (n / 128) in (128 + n % 128) ∷ more)

-- The bytes of a number: all its groups. A number n never has more than n + 1.
unfoldable pub encoded : ℕ → List ℕ
encoded n = groups (suc n) n

-- A group that another follows, before the rest of its number: that rest is no single zero group.
unfoldable pub before : ℕ → Result (ℕ × List ℕ) Refusal → Result (ℕ × List ℕ) Refusal
before b (Err e) = Err e
before b (Ok (n, left)) = cond (n == 0) (Err NumberPadded) (Ok (b - 128 + 128 * n, left))

-- The number of at most k groups that some bytes begin with, and the bytes left behind it; or why there is none.
unfoldable pub decoded_in : ℕ → List ℕ → Result (ℕ × List ℕ) Refusal
decoded_in zero bytes = Err NumberTooLong
decoded_in (suc k) [] = Err NumberCut
decoded_in (suc k) (b ∷ bytes) = cond (nat_lt b 128) (Ok (b, bytes)) (before b (decoded_in k bytes))

-- The most groups of a number of a sheet file.
abbrev pub most_groups : ℕ
most_groups = 6

-- The same of a number of a sheet file.
abbrev pub decoded : List ℕ → Result (ℕ × List ℕ) Refusal
decoded bytes = decoded_in most_groups bytes
