use Rattle.std.proofs.Common.{◌≡◌, rules, length, get_or, is_ok, Err, sym, ap, ◌∙◌, subst, arith, Bor}
use Rattle.sources.specs.declared.layers.times.Times.{Times}
use Rattle.sources.specs.Layers.{times_of}
use Rattle.auction.specs.Calls.{counts_answer, standing_answer}
use Rattle.auction.specs.declared.bidding.Standing.TheVariants.{Out}
use Rattle.auction.specs.Tally.{standing_at}
use Rattle.sheetfile.proofs.Steps.{ok_same}
use Rattle.hall.specs.InBooks.{tally_of}
use Rattle.pairing.specs.Pairs.{Ends, auctioned}
use Rattle.pairing.proofs.Auctions.{as_new, ends_refused, ends_timed, ends_well, noted_more, standing_told}
use Rattle.pairing.proofs.auctioning.hold_auction.Goals as goal
use Rattle.pairing.proofs.auctioning.hold_auction.Goals.{in-Ok, in_default}

pub returns-in_err-answers-clause-ends : goal.returns-in_err-answers-clause-ends
returns-in_err-answers-clause-ends g c =
    let m = g.S.Source.meaning c.args.source.now in
    let sound = g.S.Source.sound c.args.source.now in
    let n = length c.args.standings.now in
    let r = as_new (λ (s : Times (Bor g.row.S.Denot)). times_of s.factor (g.S.Source.meaning s.below.now)) _ _ _ _ c.perform_all.new.answers c.perform_all.new.self.books c.new-hall.ensures.source_kept c.new-hall.ensures.tallied (c.perform_all.ensures.performed (ap is_ok c.perform_all.ensures.fits)) in
    let back : c.from_residual.result ≡ Err c.in_err-answers.field-0.0 = search rules in
    subst (λ o. Ends (auctioned m) o c.args.standings.now) (sym back) (ends_refused m sound n c.requires.each _ c.perform_all.new.answers c.perform_all.new.self.books r c.in_err-answers.field-0.0 _ c.args.standings.now c.in_err-answers.was)

pub returns-in_err-answers-clause-timed : goal.returns-in_err-answers-clause-timed
returns-in_err-answers-clause-timed g c =
    ends_timed (g.S.Source.meaning c.args.source.now) (g.S.Source.sound c.args.source.now) c.from_residual.result c.args.standings.now (returns-in_err-answers-clause-ends g c)

pub loop-carrier-preserved : goal.loop-carrier-preserved
loop-carrier-preserved g c t some =
    let m = g.S.Source.meaning c.args.source.now in
    let sound = g.S.Source.sound c.args.source.now in
    let n = length c.args.standings.now in
    let i = c.loop-carrier.carrier in
    let b = c.perform_all.new.self.books in
    let r = as_new (λ (s : Times (Bor g.row.S.Denot)). times_of s.factor (g.S.Source.meaning s.below.now)) _ _ _ _ c.perform_all.new.answers c.perform_all.new.self.books c.new-hall.ensures.source_kept c.new-hall.ensures.tallied (c.perform_all.ensures.performed (ap is_ok c.perform_all.ensures.fits)) in
    let told = c.standing.ensures.answered ∙ ap (λ (s : Times (Bor g.row.S.Denot)). standing_answer i (times_of s.factor (g.S.Source.meaning s.below.now)) (tally_of b)) (c.perform_all.ensures.source_kept ∙ c.new-hall.ensures.source_kept)
    ∙ standing_told m sound n c.requires.each _ c.perform_all.new.answers b r t some i c.loop-carrier-test.true in
    elim c.match-standing.branch [
      | in-Ok w ↦
          let same : w.in-Ok.told ≡ standing_at t c.loop-carrier.carrier = ok_same _ _ (sym w.in-Ok.is ∙ told) in
          λ k h. ap (λ ss. get_or ss k Out) w.standings-is ∙ noted_more c.loop-carrier.standings i w.in-Ok.told (standing_at t) (omega (arith, c.loop-carrier-test.true, c.loop-carrier.auto.standings)) same (c.loop-carrier.invariant t some) k h
      | in_default w ↦ absurd (w.in_default.not-Ok _ told)
    ]

pub returns-clause-ends : goal.returns-clause-ends
returns-clause-ends g c =
    let m = g.S.Source.meaning c.args.source.now in
    let sound = g.S.Source.sound c.args.source.now in
    let n = length c.args.standings.now in
    let b = c.perform_all.new.self.books in
    let r = as_new (λ (s : Times (Bor g.row.S.Denot)). times_of s.factor (g.S.Source.meaning s.below.now)) _ _ _ _ c.perform_all.new.answers c.perform_all.new.self.books c.new-hall.ensures.source_kept c.new-hall.ensures.tallied (c.perform_all.ensures.performed (ap is_ok c.perform_all.ensures.fits)) in
    let first = c.in_ok-answers.was in
    ends_well m sound n c.requires.each _ c.perform_all.new.answers b r _ c.in_ok-answers.field-0 c.counts.result c.loop-carrier.standings first
    (c.counts.ensures.answered ∙ ap (λ (s : Times (Bor g.row.S.Denot)). counts_answer (times_of s.factor (g.S.Source.meaning s.below.now)) (tally_of b)) (c.perform_all.ensures.source_kept ∙ c.new-hall.ensures.source_kept))
    c.loop-carrier.auto.standings (λ t some k inside. c.loop-carrier.invariant t some k (omega (arith, c.loop-carrier-test.false)))

pub returns-clause-timed : goal.returns-clause-timed
returns-clause-timed g c =
    ends_timed (g.S.Source.meaning c.args.source.now) (g.S.Source.sound c.args.source.now) c.counts.result c.loop-carrier.standings (returns-clause-ends g c)
