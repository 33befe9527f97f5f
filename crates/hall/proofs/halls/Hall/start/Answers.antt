use Rattle.std.proofs.Common.{Some, None, ap, ◌∙◌}
use Rattle.auction.specs.declared.calls.Call.TheVariants.{Start}
use Rattle.auction.specs.Calls.{tally_by}
use Rattle.auction.specs.Rules.{tally_at_start, start_tally_by}
use Rattle.auction.proofs.Reaching.{reached_none, reached_more}
use Rattle.hall.specs.InBooks.{tally_of}
use Rattle.hall.proofs.halls.Hall.start.Goals as goal

-- A start leads from every tally to the same, so from none too.
pub invariant_of-self-clause-reached : goal.invariant_of-self-clause-reached
unfolding tally_by
invariant_of-self-clause-reached g c =
    let m = g.S.Source.meaning c.args.self.now.source in
    let n = c.args.step in
    let lanes = c.args.lanes in
    reached_more m None (tally_of (Some c.new.result)) (Start n lanes) (reached_none m)
    (ap Some (c.new.ensures.tallied ∙ ap (λ h. tally_at_start h.carriers h.jobs n lanes) c.heading_of.ensures)
    ∙ ap (λ r. start_tally_by r (tally_at_start m.carriers m.jobs n lanes) None) c.in_ok-check_start.ensures)
