use Rattle.std.proofs.Common.{arith}
use Rattle.sources.proofs.Refusing.{passed_more}
use Rattle.sources.proofs.filling_checks.start_from.Goals as goal

pub loop-next-init : goal.loop-next-init
loop-next-init c j l m = absurd (omega arith)

pub loop-next-preserved : goal.loop-next-preserved
loop-next-preserved c = passed_more c.args.starts.now c.args.from c.loop-next.next c.args.k c.loop-next.invariant c.if-starts-next.true

pub returns-else-starts-next-clause-passed : goal.returns-else-starts-next-clause-passed
returns-else-starts-next-clause-passed c = c.loop-next.invariant

pub returns-after-loop-next-clause-passed : goal.returns-after-loop-next-clause-passed
returns-after-loop-next-clause-passed c = c.loop-next.invariant
