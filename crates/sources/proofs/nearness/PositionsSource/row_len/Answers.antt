use Rattle.sources.proofs.PositionRows.{row_len_lem, no_row_len}
use Rattle.sources.proofs.nearness.PositionsSource.row_len.Goals as goal

pub returns-then-carrier-self : goal.returns-then-carrier-self
returns-then-carrier-self c =
    let s = c.args.self.now in
    row_len_lem s.carriers.now s.jobs.now s.reach c.args.carrier c.if-carrier-self.true

pub returns-else-carrier-self : goal.returns-else-carrier-self
returns-else-carrier-self c =
    let s = c.args.self.now in
    no_row_len s.carriers.now s.jobs.now s.reach c.args.carrier c.if-carrier-self.false
