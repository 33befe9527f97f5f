-- A read, taken apart and put together.
use Rattle.std.proofs.Common.{◌≡◌, ℕ, List, Ok, Err, Result, Bor, sym, ap, ◌∙◌}
use Rattle.refusals.specs.declared.Fault.{Fault}
use Rattle.sheetfile.specs.Readers.{Reads, reader_after, value_of}
use Rattle.sheetfile.specs.Reading.{heading_at, heading_in}
use Rattle.sheetfile.specs.declared.reader.Reader.{Reader}
use Rattle.sheetfile.proofs.Steps.{err_not_ok, ok_same}

value_ok : {A : Type 0} (old new : Reader) (x : A) (read : Result (A × ℕ) Fault) → Ok x ≡ value_of read → new ≡ reader_after old read → (read ≡ Ok (x, new.at)) × (new.bytes ≡ old.bytes)
value_ok old new x (Err e) value place = err_not_ok e x (sym value)
value_ok old new x (Ok (y, at)) value place =
    (ap (λ z. Ok (z, at)) (sym (ok_same x y value)) ∙ ap (λ n. Ok (x, n)) (sym (ap (λ (r : Reader). r.at) place)), ap (λ (r : Reader). r.bytes) place)

value_err : {A : Type 0} (old new : Reader) (e : Fault) (read : Result (A × ℕ) Fault) → Err e ≡ value_of read → new ≡ reader_after old read → (read ≡ Err e) × (new ≡ old)
value_err old new e (Err d) value place = (let same : d ≡ e = cc in ap (λ z. Err z) same, place)
value_err old new e (Ok (y, at)) value place = err_not_ok e y value

-- what was read stands before the reader, or it was refused
pub reads_ok : {A : Type 0} {old new : Reader} {x : A} {read : Result (A × ℕ) Fault} → Reads old (Ok x) new read → (read ≡ Ok (x, new.at)) × (new.bytes ≡ old.bytes)
reads_ok {A} {old} {new} {x} {read} r = value_ok old new x read r.value r.place

pub reads_err : {A : Type 0} {old new : Reader} {e : Fault} {read : Result (A × ℕ) Fault} → Reads old (Err e) new read → (read ≡ Err e) × (new ≡ old)
reads_err {A} {old} {new} {e} {read} r = value_err old new e read r.value r.place

pub read_ok : {A : Type 0} (old new : Reader) (x : A) (read : Result (A × ℕ) Fault) → new.bytes ≡ old.bytes → read ≡ Ok (x, new.at) → Reads old (Ok x) new read
read_ok old new x read same is = record { value = sym (ap value_of is); place = ap (λ (b : Bor (List ℕ)). record { bytes = b; at = new.at }) same ∙ sym (ap (reader_after old) is) }

pub read_err : {A : Type 0} (old : Reader) (e : Fault) (read : Result (A × ℕ) Fault) → read ≡ Err e → Reads old (Err e) old read
read_err old e read is = record { value = sym (ap value_of is); place = sym (ap (reader_after old) is) }

-- a heading is read from the first byte on
pub heading_from_start : (r : Reader) (bs : List ℕ) (starts : ℕ) → r.bytes.now ≡ bs → r.at ≡ 0 → heading_in bs starts ≡ heading_at r.bytes.now starts r.at
heading_from_start r bs starts same start = sym (ap (λ n. heading_at r.bytes.now starts n) start ∙ ap (λ b. heading_at b starts 0) same)
