use Rattle.std.proofs.Common.{◌≡◌, ◌++◌}
use Rattle.numbers.specs.Groups.{encoded}
use Rattle.grids.proofs.groups.push_number.Given as goal

abbrev pub invariant-loop-rest : goal.invariant-loop-rest
invariant-loop-rest l = l.bytes.items ++ encoded l.rest ≡ l.fn.bytes.items ++ encoded l.n

abbrev pub decreases-loop-rest : goal.decreases-loop-rest
decreases-loop-rest l = l.rest
