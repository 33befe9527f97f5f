use Rattle.std.proofs.Common.{sym, ◌∙◌, arith, rules, tests}
use Rattle.std.proofs.lemmas.Bool.{cond-true}
use Rattle.replaying.specs.Lines.{said_by}
use Rattle.replaying.proofs.Values.{begins}
use Rattle.replaying.proofs.Words.{said_line}
use Rattle.replaying.proofs.line.said_in.Goals as goal

pub returns-then-starts_with : goal.returns-then-starts_with
unfolding said_by
returns-then-starts_with c = sym (cond-true _ _ _ (sym (begins 35 c.args.line.now (omega arith)) ∙ sym c.starts_with.ensures.value ∙ c.if-starts_with.true))

pub returns : goal.returns
returns c =
    said_line _ c.args.line.now c.by_words.result c.split-words.result c.next.new.self c.next-2.new.self c.next-3.new.self c.next-4.new.self c.in_ok-next.field-0 c.next-2.result c.next-3.result c.next-4.result
    (sym (begins 35 c.args.line.now (omega arith)) ∙ sym c.starts_with.ensures.value ∙ c.if-starts_with.false)
    c.by_words.ensures c.in_ok-next.ensures.steps c.next-2.ensures.steps c.next-3.ensures.steps c.next-4.ensures.steps
    c.split-words.ensures.rest c.split-words.ensures.done c.split-words.ensures.closure (λ x r q k. search (rules, tests))
