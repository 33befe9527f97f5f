use Rattle.std.specs.Prelude.{◌≡◌, ℕ, ◌+◌, ◌^◌, ◌<◌, ◌≤◌, List, ◌++◌, length, drop, IfOk, Ok, Result}
use Rattle.refusals.specs.declared.Fault.{Fault}
use Rattle.numbers.specs.Groups.{encoded}

-- A number has 1 to 6 bytes exactly if it is below 2^42.
pub record Sized (n : ℕ) : Type 0 where
  pub some : 1 ≤ length (encoded n)
  pub few : n < 2 ^ 42 → length (encoded n) ≤ 6
  pub small : length (encoded n) ≤ 6 → n < 2 ^ 42

-- From a place on, some bytes begin with the bytes of a number below 2^42, which end before the next place.
pub record Begins (bytes : List ℕ) (at n next : ℕ) : Type 0 where
  pub bytes_are : drop at bytes ≡ encoded n ++ drop next bytes
  pub next_is : next ≡ at + length (encoded n)
  pub small : n < 2 ^ 42

-- Reading at a place accepts exactly the bytes of a number, with anything behind them: whatever is accepted is the one
-- form of its value, and each such form is accepted.
pub record ReadsExactly (bytes : List ℕ) (at : ℕ) (r : Result (ℕ × ℕ) Fault) : Type 0 where
  pub one_form : IfOk r (λ p. Begins bytes at p.0 p.1)
  pub read_back : (n : ℕ) (behind : List ℕ) → n < 2 ^ 42 → drop at bytes ≡ encoded n ++ behind → r ≡ Ok (n, at + length (encoded n))
