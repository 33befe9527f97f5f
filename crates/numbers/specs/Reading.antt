use Rattle.std.specs.Prelude.{ℕ, ◌-◌, List, length, drop, Ok, Err, Result}
use Rattle.refusals.specs.declared.Refusal.{Refusal}
use Rattle.refusals.specs.declared.Fault.{Fault}
use Rattle.refusals.specs.Faults.{fault_at}
use Rattle.numbers.specs.Groups.{decoded}

-- What was read at a place of some bytes: the number and the place behind it, or the refusal with the place where
-- the number begins.
abbrev pub placed : List ℕ → ℕ → Result (ℕ × List ℕ) Refusal → Result (ℕ × ℕ) Fault
placed bytes at (Ok (n, left)) = Ok (n, length bytes - length left)
placed bytes at (Err e) = Err (fault_at e at)

-- What comes of reading a number at a place of some bytes.
abbrev pub read_at : List ℕ → ℕ → Result (ℕ × ℕ) Fault
read_at bytes at = placed bytes at (decoded (drop at bytes))
