-- What a read makes of a reader.
use Rattle.std.specs.Prelude.{◌≡◌, ℕ, Ok, Err, Result}
use Rattle.std.specs.Result.{result_map_both}
use Rattle.refusals.specs.declared.Fault.{Fault}
use Rattle.sheetfile.specs.declared.reader.Reader.{Reader}

-- What is read, without the place behind it.
abbrev pub value_of : {A : Type 0} → Result (A × ℕ) Fault → Result A Fault
value_of read = result_map_both (λ x. x.0) (λ e. e) read

-- The reader stands behind what is read. Where that is refused, it stays where it was.
abbrev pub reader_after : {A : Type 0} → Reader → Result (A × ℕ) Fault → Reader
reader_after r (Err e) = r
reader_after r (Ok (x, at)) = record { bytes = r.bytes; at = at }

-- What a read answers, and where the reader stands after it, by what comes of reading at its place.
pub record Reads {A : Type 0} (old : Reader) (answer : Result A Fault) (new : Reader) (read : Result (A × ℕ) Fault) : Type 0 where
  pub value : answer ≡ value_of read
  pub place : new ≡ reader_after old read
