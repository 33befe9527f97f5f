use Rattle.std.specs.Prelude.{◌≡◌, ◌^◌, [], ◌∷◌, Ok, Err}
use Rattle.refusals.specs.declared.Refusal.TheVariants.{NumberPadded}
use Rattle.refusals.specs.Faults.{fault_at}
use Rattle.numbers.specs.Groups.{encoded, decoded}
use Rattle.worked.specs.declared.NumberCases.{NumberCases}

-- The worked bytes of numbers: 127 is 7F, 128 is 80 01, 2^36 is 80 80 80 80 80 02; 80 00 is refused with 3.
pub record WorkedNumbers : Type 0 where
  pub one_group : encoded 127 ≡ 127 ∷ []
  pub two_groups : encoded 128 ≡ 128 ∷ 1 ∷ []
  pub six_groups : encoded (2 ^ 36) ≡ 128 ∷ 128 ∷ 128 ∷ 128 ∷ 128 ∷ 2 ∷ []
  pub padded : decoded (128 ∷ 0 ∷ []) ≡ Err NumberPadded

-- What is read of these bytes: each number with the place behind it, and the refusal at place 0.
abbrev pub number_cases : NumberCases
number_cases =
    record {
      one_group = Ok (127, 1);
      two_groups = Ok (128, 2);
      six_groups = Ok (2 ^ 36, 6);
      padded = Err (fault_at NumberPadded 0);
    }
