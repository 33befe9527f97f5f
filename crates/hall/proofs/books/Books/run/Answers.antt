use Rattle.std.proofs.Common.{◌≡◌, ◌≤◌, true, ap, ◌∙◌, arith}
use Rattle.std.proofs.lemmas.Grind.{common_steps}
use Rattle.auction.specs.Rules.{between}
use Rattle.auction.specs.Runs.{many_steps}
use Rattle.hall.proofs.RunSteps.{start_ordered, run_ruled, run_reported}
use Rattle.hall.proofs.books.Books.run.Goals as goal

pub make_steps-steps-requires-clause-ordered : goal.make_steps-steps-requires-clause-ordered
make_steps-steps-requires-clause-ordered g c = start_ordered (g.S.Source.meaning c.args.source.now) c.args.self.now c.begin.new.queues c.begin.ensures

pub returns : goal.returns
returns g c =
    let m = g.S.Source.meaning c.args.source.now in
    let sound = g.S.Source.sound c.args.source.now in
    let old = c.args.self.now in
    let new = c.make_steps-steps.new.self in
    let q = c.make_steps-steps.new.queues in
    let d : between 1 128 c.args.depth ≡ true = grind (arith, common_steps) in
    let deep : 1 ≤ c.args.depth = grind (arith, common_steps) in
    let made = c.make_steps-steps.ensures.made ∙ ap (many_steps m c.args.depth c.args.budget) c.begin.ensures in
    record {
      noted = c.make_steps-steps.ensures.noted;
      ruled = run_ruled m sound c.args.depth c.args.budget old new q c.make_steps-steps.result d c.requires made c.make_steps-steps.ensures.ordered c.ending.result c.ending.ensures c.since.result c.since.ensures;
      reported = run_reported m sound c.args.depth c.args.budget old new q c.make_steps-steps.result d c.requires made c.make_steps-steps.ensures.ordered c.ending.result c.ending.ensures c.since.result c.since.ensures deep;
    }
