use Rattle.std.proofs.Common.{◌≡◌, Some, sym, ap, ◌∙◌, rules}
use Rattle.auction.specs.declared.calls.Call.TheVariants.{Run}
use Rattle.auction.specs.Calls.{tally_by}
use Rattle.auction.proofs.Reaching.{reached_more}
use Rattle.hall.specs.InBooks.{tally_of}
use Rattle.hall.proofs.RunSteps.{run_is_made}
use Rattle.hall.proofs.halls.Hall.run.Goals as goal

pub invariant_of-self-2-clause-reached : goal.invariant_of-self-2-clause-reached
unfolding tally_by
invariant_of-self-2-clause-reached g c =
    let hall = c.args.self.now in
    let m = g.S.Source.meaning hall.source in
    let found : hall.books ≡ Some c.in_ok-ok_or.field-0.now = search rules in
    reached_more m (tally_of hall.books) (tally_of (Some c.run.new.self)) (Run c.args.depth c.args.budget) hall.reached
    (c.run.ensures.ruled.tallied ∙ ap (λ b. tally_by m (tally_of b) (Run c.args.depth c.args.budget)) (sym found))

pub returns-clause-made : goal.returns-clause-made
returns-clause-made g c =
    let hall = c.args.self.now in
    let found : hall.books ≡ Some c.in_ok-ok_or.field-0.now = search rules in
    run_is_made (g.S.Source.meaning hall.source) (g.S.Source.sound hall.source) c.args.depth c.args.budget hall.books c.in_ok-ok_or.field-0.now c.run.new.self c.run.result found hall.reached c.run.ensures.ruled
