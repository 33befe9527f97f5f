use Rattle.std.proofs.Common.{◌≡◌, ◌-◌, ◌^◌, ◌<◌, drop}
use Rattle.numbers.specs.Groups.{decoded_in}
use Rattle.numbers.proofs.Reading.{after}
use Rattle.numbers.proofs.read_any.Given as goal

abbrev pub invariant-loop-k : goal.invariant-loop-k
invariant-loop-k l =
    (l.scale ≡ 128 ^ l.k) × (l.value < l.scale)
    × (decoded_in 6 (drop l.at l.bytes) ≡ after l.k l.value (decoded_in (6 - l.k) (drop l.k (drop l.at l.bytes))))
