use Rattle.std.proofs.Common.{◌≡◌, Some, sym, ap, ◌∙◌, rules}
use Rattle.auction.specs.declared.calls.Call.TheVariants.{Summon}
use Rattle.auction.specs.Calls.{tally_by}
use Rattle.auction.proofs.Reaching.{reached_more}
use Rattle.hall.specs.InBooks.{tally_of}
use Rattle.hall.proofs.halls.Hall.summon.Goals as goal

pub invariant_of-self-2-clause-reached : goal.invariant_of-self-2-clause-reached
unfolding tally_by
invariant_of-self-2-clause-reached g c =
    let hall = c.args.self.now in
    let m = g.S.Source.meaning hall.source in
    let found : hall.books ≡ Some c.in_ok-ok_or.field-0.now = search rules in
    reached_more m (tally_of hall.books) (tally_of (Some c.summon.new.self)) (Summon c.args.carrier) hall.reached
    (c.summon.ensures.ruled.tallied ∙ ap (λ b. tally_by m (tally_of b) (Summon c.args.carrier)) (sym found))
