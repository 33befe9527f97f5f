use Rattle.std.proofs.Common.{arith}
use Rattle.numbers.proofs.Writing.{wrote_last, wrote_more}
use Rattle.numbers.proofs.put_groups.Goals as goal
use Rattle.numbers.proofs.put_groups.Goals.{then-rest-lt128, else-rest-lt128}

pub loop-place-preserved : goal.loop-place-preserved
loop-place-preserved c =
    let l = c.loop-place in
    elim c.if-rest-lt128.branch [
      | then-rest-lt128 w ↦ wrote_last l.places l.place-index l.rest c.args.n (omega (arith, c.requires, l.auto.places)) (omega (arith, c.loop-place-test.true, l.auto.places)) l.invariant c.if-rest-lt128.place w.place-is w.if-rest-lt128.true
      | else-rest-lt128 w ↦ wrote_more l.places l.place-index l.rest c.args.n (omega (arith, c.requires, l.auto.places)) (omega (arith, c.loop-place-test.true, l.auto.places)) l.invariant c.if-rest-lt128.place w.place-is w.if-rest-lt128.false
    ]
