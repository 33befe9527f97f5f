use Rattle.std.proofs.Common.{refl, rules}
use Rattle.numbers.specs.Groups.{groups, encoded, before, decoded_in}
use Rattle.worked.specs.Numbers.{WorkedNumbers}
use Rattle.worked.proofs.number_cases.Goals as goal

worked : WorkedNumbers
unfolding groups encoded before decoded_in
worked = record { one_group = refl; two_groups = refl; six_groups = refl; padded = refl }

pub returns : goal.returns
unfolding groups encoded before decoded_in
returns c = record { value = search rules; worked = worked }
