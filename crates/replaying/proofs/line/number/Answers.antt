use Rattle.std.proofs.Common.{sym, ◌∙◌, arith}
use Rattle.replaying.proofs.Values.{begins, no_text, not_text, number_read, plus_none, some_text}
use Rattle.replaying.proofs.line.number.Goals as goal

pub returns-then-starts_with : goal.returns-then-starts_with
returns-then-starts_with c = sym (plus_none c.args.word.now (sym (begins 43 c.args.word.now (omega arith)) ∙ sym c.starts_with.ensures.value ∙ c.if-starts_with.true))

pub returns-in_err-ok : goal.returns-in_err-ok
returns-in_err-ok c = c.from_residual.ensures ∙ sym (not_text c.args.word.now (no_text _ _ c.from_utf8.result c.from_utf8.ensures.cases c.in_err-ok.ensures.value))

pub returns : goal.returns
returns c =
    c.ok-2.ensures.value
    ∙ number_read c.args.word.now c.in_ok-ok.field-0.now c.parse.result (some_text _ _ c.from_utf8.result c.in_ok-ok.field-0 c.from_utf8.ensures.cases c.in_ok-ok.ensures.value).0
    (sym c.starts_with.ensures.value ∙ c.if-starts_with.false) c.parse.ensures.value.0
