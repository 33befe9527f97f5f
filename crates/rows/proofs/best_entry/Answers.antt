use Rattle.std.proofs.Common.{arith, rules, tests}
use Rattle.sources.specs.Meaning.{row_of}
use Rattle.sources.proofs.Reading.{row_rising}
use Rattle.rows.proofs.Entries.{takes_next, keeps_best, most_is}
use Rattle.rows.proofs.best_entry.Goals as goal

pub loop-job-preserved-then-worth-map_or : goal.loop-job-preserved-then-worth-map_or
loop-job-preserved-then-worth-map_or g c =
    let row = row_of (g.S.Source.meaning c.args.source.now) c.args.carrier in
    let most = most_is c.loop-job.best c.map_or.result c.map_or.ensures (λ e k. search (rules, tests)) in
    takes_next row c.loop-job.yielded _ _ c.in-Some.job c.in-Some.worth c.loop-job.best c.loop-job.invariant c.in-Some.ensures.steps (omega (arith, most, c.if-worth-map_or.true))

pub loop-job-preserved : goal.loop-job-preserved
loop-job-preserved g c =
    let m = g.S.Source.meaning c.args.source.now in
    let row = row_of m c.args.carrier in
    let most = most_is c.loop-job.best c.map_or.result c.map_or.ensures (λ e k. search (rules, tests)) in
    keeps_best row c.loop-job.yielded _ _ c.in-Some.job c.in-Some.worth c.loop-job.best c.loop-job.invariant c.in-Some.ensures.steps
    (row_rising m (g.S.Source.sound c.args.source.now) c.args.carrier) (omega (arith, most, c.if-worth-map_or.false))
