use Rattle.std.specs.Prelude.{ℕ, ◌+◌, Bool, cond, ◌&&◌, List, length, Ok, Err, Result, nat_le}
use Rattle.std.specs.List.{splice}
use Rattle.refusals.specs.declared.Refusal.{Refusal}
use Rattle.refusals.specs.declared.Refusal.TheVariants.{TooShort}
use Rattle.numbers.specs.Groups.{encoded, most_groups}

-- A list with other elements in the stead of its own from a place on.
abbrev pub over : {A : Type 0} → List A → ℕ → List A → List A
over xs at new = splice xs at (at + length new) new

-- A number can be written at a place of so many bytes: it has no more groups than a number may have, and they end within the bytes.
abbrev pub fits_at : ℕ → ℕ → ℕ → Bool
fits_at room at n = nat_le (length (encoded n)) most_groups && nat_le (at + length (encoded n)) room

-- What comes of writing a number at a place of so many bytes: the place behind it, or the refusal.
abbrev pub write_at : ℕ → ℕ → ℕ → Result ℕ Refusal
write_at room at n = cond (fits_at room at n) (Ok (at + length (encoded n))) (Err TooShort)
