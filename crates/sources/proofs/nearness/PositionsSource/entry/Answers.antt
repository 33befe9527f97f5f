use Rattle.std.proofs.Common.{◌∙◌}
use Rattle.sources.specs.Travel.{no_place}
use Rattle.sources.proofs.PositionRows.{no_job, the_entry}
use Rattle.sources.proofs.nearness.PositionsSource.entry.Goals as goal

pub returns-in_err-to : goal.returns-in_err-to
returns-in_err-to c =
    let s = c.args.self.now in
    c.from_residual-in_err-to.ensures
    ∙ no_job s.carriers.now s.jobs.now s.reach c.args.carrier c.args.index c.in_ok-from.ensures.lookup.3.0 c.in_err-to.ensures.lookup.3

pub returns : goal.returns
returns c =
    let s = c.args.self.now in
    let f = c.in_ok-from.ensures.lookup.3 in
    let t = c.in_ok-to.ensures.lookup.3 in
    the_entry s.carriers.now s.jobs.now s.reach c.args.carrier c.args.index _ _ _ f.0 t.0 (f.1 no_place) (t.1 no_place) (c.from.ensures ∙ c.worth.ensures.value)
