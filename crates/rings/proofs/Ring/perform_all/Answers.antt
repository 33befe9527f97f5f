use Rattle.std.proofs.Common.{◌<◌, length, ap, ◌∙◌, arith}
use Rattle.rings.specs.Held.{held, room}
use Rattle.rings.specs.Moves.{list_after, outcome_of}
use Rattle.rings.proofs.Moving.{list_more, outcome_more, behind_more, all_performed}
use Rattle.rings.proofs.Ring.perform_all.Goals as goal

pub loop-i-preserved : goal.loop-i-preserved
loop-i-preserved g c =
    let n = room c.args.self.now in
    let xs = held c.args.self.now in
    let i = c.loop-i.i in
    let inv = c.loop-i.invariant in
    let m = c.index-moves-i.result in
    let l : i < length c.loop-i.outcomes = omega arith in (
      list_more n xs c.args.moves.now i m c.loop-i-test.true (held c.loop-i.self) (held c.perform.new.self) inv.0
          (c.perform.ensures.holds ∙ ap (λ k. list_after k (held c.loop-i.self) m) inv.1 ∙ ap (list_after n (held c.loop-i.self)) c.index-moves-i.is),
      c.perform.ensures.size ∙ inv.1,
      outcome_more n xs c.args.moves.now i m c.loop-i-test.true (held c.loop-i.self) c.perform.result c.loop-i.outcomes inv.0
          (c.perform.ensures.outcome ∙ ap (λ k. outcome_of k (held c.loop-i.self) m) inv.1 ∙ ap (outcome_of n (held c.loop-i.self)) c.index-moves-i.is) l inv.2,
      behind_more c.loop-i.outcomes c.args.outcomes.now i c.perform.result l inv.3,
    )

pub returns-clause-performed : goal.returns-clause-performed
returns-clause-performed g c =
    let inv = c.loop-i.invariant in
    λ _. all_performed (room c.args.self.now) c.args.moves.now (held c.args.self.now) (held c.loop-i.self) c.args.outcomes.now c.loop-i.outcomes c.loop-i.i
    c.loop-i-test.false c.loop-i.auto.i-end inv.0 inv.2 inv.3
