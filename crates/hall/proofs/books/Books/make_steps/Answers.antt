use Rattle.std.proofs.Common.{◌≡◌, ◌-◌, sym, ap, ◌∙◌, arith}
use Rattle.hall.specs.RunSteps.{state_of}
use Rattle.hall.proofs.RunSteps.{steps_on, ordered_on, no_steps, idle_state, run_grown}
use Rattle.hall.proofs.books.Books.make_steps.Goals as goal

pub loop-made-preserved : goal.loop-made-preserved
loop-made-preserved g c =
    let m = g.S.Source.meaning c.args.source.now in
    let inv = c.loop-made.invariant in
    let old = c.loop-made.self in
    let new = c.step.new.self in
    let q = c.loop-made.queues in
    let q' = c.step.new.queues in
    record {
      noted = c.step.ensures.noted;
      ordered = ordered_on m c.args.depth old new q q' c.step.ensures inv.noted inv.ordered;
      left = steps_on m c.args.depth old new q q' c.step.ensures c.args.budget c.loop-made.made _ c.loop-made-test.true inv.left;
    }

pub returns : goal.returns
returns g c =
    let m = g.S.Source.meaning c.args.source.now in
    let inv = c.loop-made.invariant in
    let e : c.loop-made.made ≡ c.args.budget = omega arith in
    let made =
    ap (state_of c.loop-made.self c.loop-made.queues) (sym e) ∙ sym (no_steps m c.args.depth (c.args.budget - c.loop-made.made) _ (omega arith)) ∙ inv.left in
    record { noted = inv.noted; made = made; ordered = inv.ordered; grown = run_grown m c.args.depth c.args.budget c.args.self.now c.loop-made.self c.args.queues.now c.loop-made.queues _ made }

pub returns-then-is_idle : goal.returns-then-is_idle
returns-then-is_idle g c =
    let m = g.S.Source.meaning c.args.source.now in
    let inv = c.loop-made.invariant in
    let made = sym (idle_state m c.args.depth (c.args.budget - c.loop-made.made) c.loop-made.made c.loop-made.self c.loop-made.queues (sym c.if-is_idle.ensures)) ∙ inv.left in
    record { noted = inv.noted; made = made; ordered = inv.ordered; grown = run_grown m c.args.depth c.args.budget c.args.self.now c.loop-made.self c.args.queues.now c.loop-made.queues _ made }
