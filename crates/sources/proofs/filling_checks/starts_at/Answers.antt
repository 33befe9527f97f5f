use Rattle.sources.proofs.Refusing.{first_start, past_starts}
use Rattle.sources.proofs.filling_checks.starts_at.Goals as goal

pub returns-then-next-starts : goal.returns-then-next-starts
returns-then-next-starts c =
    first_start c.args.starts.now c.requires.rises c.args.next c.args.k c.requires.passed (c.requires.reached c.if-next-starts.true) c.if-next-starts.true

pub returns-else-next-starts : goal.returns-else-next-starts
returns-else-next-starts c = past_starts c.args.starts.now c.requires.rises c.args.next c.args.k c.requires.passed c.if-next-starts.false
