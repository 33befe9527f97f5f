use Rattle.std.proofs.Common.{length, sym, ap, ◌∙◌, arith}
use Rattle.hall.proofs.RunSteps.{few_held, step_summons, step_first}
use Rattle.hall.proofs.books.Books.step.Goals as goal

pub summon_first-requires-clause-place : goal.summon_first-requires-clause-place
summon_first-requires-clause-place g c =
    let n = few_held (g.S.Source.meaning c.args.source.now) c.args.self.now c.args.queues.now c.requires.ordered in
    let l = ap length c.in-Some.ensures.waits in
    let f = ap length c.in-Some.ensures.bids in
    omega (arith, n, l, f)

pub returns-in-Some : goal.returns-in-Some
returns-in-Some g c =
    step_summons (g.S.Source.meaning c.args.source.now) c.args.depth c.args.self.now c.summon_first.new.self c.args.queues.now c.next_to_summon.new.self c.summon_first.new.queues
    c.in-Some.carrier c.in-Some.ensures.test c.in-Some.ensures.waits c.in-Some.ensures.bids c.summon_first.ensures

pub first_acts-requires : goal.first_acts-requires
first_acts-requires g c =
    let n = few_held (g.S.Source.meaning c.args.source.now) c.args.self.now c.args.queues.now c.requires.ordered in
    let l = ap length c.in_default.ensures.waits in
    let f = ap length c.in_default.ensures.bids in
    let l' = ap length c.in-Some-next_to_act.ensures.waits in
    let f' = ap length c.in-Some-next_to_act.ensures.bids in
    record { noted = c.requires.noted; line_place = omega (arith, n, l, f, l', f'); flight_place = omega (arith, n, l, f, l', f') }

pub returns-in-Some-next_to_act : goal.returns-in-Some-next_to_act
returns-in-Some-next_to_act g c =
    step_first (g.S.Source.meaning c.args.source.now) c.args.depth c.args.self.now c.first_acts.new.self c.args.queues.now c.next_to_act.new.self c.first_acts.new.queues
    c.in-Some-next_to_act.first c.in_default.ensures.test (sym c.in_default.ensures.bids ∙ c.in-Some-next_to_act.ensures.bids)
    (c.in-Some-next_to_act.ensures.waits ∙ sym c.in_default.ensures.waits) c.first_acts.ensures
