use Rattle.std.proofs.Common.{◌<◌, ◌∙◌, length, refl, arith}
use Rattle.auction.specs.Calls.{tally_from}
use Rattle.hall.specs.InBooks.{tally_of}
use Rattle.hall.proofs.Replaying.{tally_performed, answer_performed, beyond_more, all_performed}
use Rattle.hall.proofs.halls.Hall.perform_all.Goals as goal

pub loop-i-init : goal.loop-i-init
unfolding tally_from
loop-i-init g c = (
  refl,
  refl,
  refl,
  refl,
)

pub loop-i-preserved : goal.loop-i-preserved
loop-i-preserved g c =
    let hall = c.args.self.now in
    let s = hall.source in
    let o = tally_of hall.books in
    let s' = c.loop-i.self.source in
    let b = c.loop-i.self.books in
    let i = c.loop-i.i in
    let inv = c.loop-i.invariant in
    let l : i < length c.loop-i.answers = omega arith in (
      c.perform.ensures.source_kept ∙ inv.0,
      tally_performed g.S.Source.meaning s s' inv.0 o b c.args.calls.now i _ c.loop-i-test.true inv.1 c.perform.new.self.books c.perform.ensures.tallied,
      answer_performed g.S.Source.meaning s s' inv.0 o b c.args.calls.now i _ c.loop-i-test.true inv.1 c.perform.result c.loop-i.answers c.perform.ensures.answered l inv.2,
      beyond_more c.loop-i.answers _ c.args.answers.now i c.perform.result l inv.3 refl,
    )

pub returns-clause-performed : goal.returns-clause-performed
returns-clause-performed g c =
    let inv = c.loop-i.invariant in
    let hall = c.args.self.now in
    let m = g.S.Source.meaning hall.source in
    λ _. all_performed m (g.S.Source.sound hall.source) (tally_of hall.books) (tally_of c.loop-i.self.books) hall.reached c.args.calls.now c.loop-i.i c.args.answers.now c.loop-i.answers
    c.loop-i-test.false c.loop-i.auto.i-end inv.1 inv.2 inv.3
