use Rattle.std.proofs.Common.{ltb, length, ◌+◌, sym, ap, ◌∙◌, arith, rules, tests}
use Rattle.std.proofs.lemmas.Bool.{cond-true, lt-ltb}
use Rattle.std.proofs.lemmas.List.{length_push}
use Rattle.std.proofs.lemmas.Result.{err_from_is_err_and}
use Rattle.replaying.specs.Logs.{asked_from, asked_in, held_in}
use Rattle.replaying.specs.Parts.{lines_of}
use Rattle.replaying.proofs.LinesLeft.{asked_all, asked_on, asked_short, line_here, lines_gone, read_err}
use Rattle.replaying.proofs.log.read_log.Goals as goal

pub returns-then-text-gt-MOST_LOG_BYTES : goal.returns-then-text-gt-MOST_LOG_BYTES
unfolding asked_in
returns-then-text-gt-MOST_LOG_BYTES c = rw c.into.ensures (cond-true (ltb 65536 (length c.args.text.now)) _ _ (lt-ltb 65536 (length c.args.text.now) c.if-text-gt-MOST_LOG_BYTES.true))

pub loop-i-preserved : goal.loop-i-preserved
loop-i-preserved c =
    let here = line_here _ c.args.text.now c.into_iter-i-iterator.result c.loop-i.i-iterator c.loop-i.yielded c.loop-i.yielded_by (cc) (cc) (cc) (cc) (λ x r q k. search (rules, tests)) c.next.new.self c.in-Some.i c.in-Some.line c.in-Some.ensures.steps in
    asked_on (lines_of c.args.text.now) (length c.loop-i.yielded) (held_in c.loop-i.log) c.in-Some.line.now here.1 _ (held_in c.note.new.self) (length_push c.loop-i.yielded _) c.in_ok-note.ensures ∙ c.loop-i.invariant

pub returns-in_err-note : goal.returns-in_err-note
returns-in_err-note c =
    let here = line_here _ c.args.text.now c.into_iter-i-iterator.result c.loop-i.i-iterator c.loop-i.yielded c.loop-i.yielded_by (cc) (cc) (cc) (cc) (λ x r q k. search (rules, tests)) c.next.new.self c.in-Some.i c.in-Some.line c.in-Some.ensures.steps in
    let asked = asked_short c.args.text.now (omega (arith, c.if-text-gt-MOST_LOG_BYTES.false)) ∙ sym c.loop-i.invariant in
    let p = err_from_is_err_and c.from_residual.result c.from_residual.ensures.1 in
    rw (p.1, p.2) (read_err (lines_of c.args.text.now) (length c.loop-i.yielded) (held_in c.loop-i.log) c.in-Some.line.now here.1 c.args.text.now c.in-Some.i (held_in c.note.new.self) c.in_err-note.field-0.0 here.0 asked c.in_err-note.ensures)

pub returns : goal.returns
returns c =
    asked_short c.args.text.now (omega (arith, c.if-text-gt-MOST_LOG_BYTES.false)) ∙ sym c.loop-i.invariant
    ∙ ap (asked_from (length c.loop-i.yielded + 1) (held_in c.loop-i.log)) (lines_gone _ c.args.text.now c.into_iter-i-iterator.result c.loop-i.i-iterator c.loop-i.yielded c.loop-i.yielded_by (cc) (cc) (cc) (cc) (λ x r q k. search (rules, tests)) c.next.new.self c.in-None.ensures.steps) ∙ asked_all _ (held_in c.loop-i.log)
