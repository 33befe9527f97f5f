-- The bytes of a number as they are written, one place after the other.
use Rattle.std.proofs.Common.{◌≡◌, ℕ, ◌+◌, ◌/◌, ◌%◌, ◌<◌, ◌≤◌, List, [], ◌∷◌, ◌++◌, length, take, set, sym, ap, ◌∙◌, arith}
use Rattle.std.proofs.lemmas.List.{append_assoc, append-nil, length-append, length-set, length-take-le, take_more_set}
use Rattle.numbers.specs.Groups.{encoded}
use Rattle.numbers.proofs.Groups.{encoded_small, encoded_large, encoded_some}

-- the groups written so far and those still to come are those of the number
pub record Written (places : List ℕ) (i rest n : ℕ) : Type 0 where
  pub more : i < length places → take i places ++ encoded rest ≡ encoded n
  pub all : i ≡ length places → take i places ≡ encoded n

module _ (places : List ℕ) (i rest n : ℕ) (room : length places ≡ length (encoded n)) (inside : i < length places) (so_far : Written places i rest n) where
  used : length (encoded n) ≡ i + length (encoded rest)
  used = omega (arith, sym (ap length (so_far.more inside)) ∙ length-append (take i places) (encoded rest), length-take-le i places (omega arith))

  -- a group written in front of the others
  one_more : (b : ℕ) (left : List ℕ) → encoded rest ≡ b ∷ left → take (i + 1) (set places i b) ++ left ≡ encoded n
  one_more b left are =
      ap (λ ys. ys ++ left) (take_more_set places i b inside) ∙ append_assoc (take i places) (b ∷ []) left
      ∙ ap (λ zs. take i places ++ zs) (sym are) ∙ so_far.more inside

  pub wrote_last : (b : ℕ) → b ≡ rest → rest < 128 → Written (set places i b) (i + 1) (rest / 128) n
  wrote_last b is small = record {
    more = λ l. absurd (omega (arith, l, length-set places i b, used, ap length (encoded_small rest small)));
    all = λ _. sym (append-nil (take (i + 1) (set places i b))) ∙ one_more b [] (rw is (encoded_small rest small));
  }

  pub wrote_more : (b : ℕ) → b ≡ 128 + rest % 128 → 128 ≤ rest → Written (set places i b) (i + 1) (rest / 128) n
  wrote_more b is large = record {
    more = λ _. one_more b (encoded (rest / 128)) (rw is (encoded_large rest large));
    all = λ e. absurd (omega (arith, e, length-set places i b, used, ap length (encoded_large rest large), encoded_some (rest / 128)));
  }
