-- Reading at a place accepts exactly the bytes of a number, with anything behind them.
use Rattle.std.proofs.Common.{◌≡◌, ℕ, ◌+◌, ◌-◌, ◌^◌, ◌<◌, ◌≤◌, List, ◌++◌, length, get_or, take, drop, IfOk, Ok, Err, Result, sym, refl, ap, ◌∙◌, arith, w8, Fits}
use Rattle.std.proofs.lemmas.List.{drop_at, drop-drop, length-append, length-drop, length-take-le}
use Rattle.std.proofs.ByRecursion.{All-drop, All-from_get_or}
use Rattle.std.specs.List.{AllByRecursion}
use Rattle.refusals.specs.declared.Refusal.{Refusal}
use Rattle.refusals.specs.declared.Fault.{Fault}
use Rattle.numbers.specs.Groups.{decoded, encoded}
use Rattle.numbers.specs.Laws.{Begins, ReadsExactly}
use Rattle.numbers.specs.Reading.{placed, read_at}
use Rattle.numbers.specs.Writing.{over}
use Rattle.numbers.proofs.Groups.{encoded_below, encoded_some}
use Rattle.numbers.proofs.Reading.{accepted, read_back}

-- the place behind a number, from how many bytes are left there
next_place : (bytes : List ℕ) (at n : ℕ) (left : List ℕ) → drop at bytes ≡ encoded n ++ left → length bytes - length left ≡ at + length (encoded n)
next_place bytes at n left is =
    omega (arith, sym (length-drop at bytes) ∙ ap length is ∙ length-append (encoded n) left, encoded_some n)

-- bytes that begin with those of a number are read as that number
pub reads : (bytes : List ℕ) (at n : ℕ) (behind : List ℕ) → n < 2 ^ 42 → drop at bytes ≡ encoded n ++ behind
    → read_at bytes at ≡ Ok (n, at + length (encoded n))
reads bytes at n behind small is =
    ap (λ bs. placed bytes at (decoded bs)) is ∙ ap (placed bytes at) (read_back 5 n behind small)
    ∙ ap (λ m. Ok (n, m)) (next_place bytes at n behind is)

form_of : (bytes : List ℕ) (at : ℕ) (d : Result (ℕ × List ℕ) Refusal) → AllByRecursion (λ b. b < 256) bytes → decoded (drop at bytes) ≡ d
    → IfOk (placed bytes at d) (λ p. Begins bytes at p.0 p.1)
form_of bytes at (Err e) small is = tt
form_of bytes at (Ok (n, left)) small is =
    let a = accepted 6 (drop at bytes) n left (All-drop (λ b. b < 256) at bytes small) is in
    let next = next_place bytes at n left a.0 in
    let behind : drop (length bytes - length left) bytes ≡ left =
    ap (λ m. drop m bytes) next ∙ sym (drop-drop (length (encoded n)) at bytes) ∙ ap (drop (length (encoded n))) a.0
    ∙ drop_at (encoded n) left (length (encoded n)) refl in
    record { bytes_are = a.0 ∙ ap (λ zs. encoded n ++ zs) (sym behind); next_is = next; small = a.1 }

pub exactly : (bytes : List ℕ) (at : ℕ) (r : Result (ℕ × ℕ) Fault) → ((i : ℕ) → Fits w8 (get_or bytes i 0)) → r ≡ read_at bytes at
    → ReadsExactly bytes at r
exactly bytes at r typed is =
    let small : AllByRecursion (λ b. b < 256) bytes = All-from_get_or (λ b. b < 256) bytes 0 (λ i _. omega (arith, typed i)) in
    rw is (record { one_form = form_of bytes at (decoded (drop at bytes)) small refl; read_back = λ n behind low front. reads bytes at n behind low front })

-- a number that was written is read again
pub written_reads : (bytes : List ℕ) (at n : ℕ) → at + length (encoded n) ≤ length bytes → length (encoded n) ≤ 6
    → read_at (over bytes at (encoded n)) at ≡ Ok (n, at + length (encoded n))
written_reads bytes at n room few =
    reads (over bytes at (encoded n)) at n (drop (at + length (encoded n)) bytes) (encoded_below 6 n few)
    (drop_at (take at bytes) (encoded n ++ drop (at + length (encoded n)) bytes) at (length-take-le at bytes (omega arith)))
