use Rattle.sources.proofs.Refusing.{starts_in_order, starts_not_in_order}
use Rattle.sources.proofs.filling_checks.starts_good.Goals as goal

pub returns-then-is_sorted : goal.returns-then-is_sorted
returns-then-is_sorted c =
    starts_in_order c.args.heading c.args.starts.now c.args.count c.if-starts-heading.false c.is_sorted.result c.is_sorted.ensures.cases c.if-is_sorted.true c.if-starts-ne0.false

pub returns-else-is_sorted : goal.returns-else-is_sorted
returns-else-is_sorted c =
    starts_not_in_order c.args.heading c.args.starts.now c.args.count c.if-starts-heading.false c.is_sorted.result c.is_sorted.ensures.cases c.if-is_sorted.false
