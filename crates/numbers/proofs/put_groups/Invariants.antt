use Rattle.numbers.proofs.Writing.{Written}
use Rattle.numbers.proofs.put_groups.Given as goal

abbrev pub invariant-loop-place : goal.invariant-loop-place
invariant-loop-place l = Written l.places l.place-index l.rest l.n
