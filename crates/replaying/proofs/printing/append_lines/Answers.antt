use Rattle.std.proofs.Common.{◌++◌, string_bytes, sym, ap, ◌∙◌}
use Rattle.std.proofs.lemmas.Iterator.{YieldsList-from_slice, YieldsList-from_zip}
use Rattle.std.proofs.lemmas.Iterator.Consumers.{YieldsList-end}
use Rattle.std.proofs.lemmas.List.Folds.{flat_map-map}
use Rattle.std.specs.List.{flat_map}
use Rattle.replaying.specs.Shown.{answer_line}
use Rattle.replaying.proofs.printing.append_lines.Goals as goal

pub returns : goal.returns
returns c =
    let end = YieldsList-end (YieldsList-from_zip (YieldsList-from_slice c.args.calls.now (cc)) (YieldsList-from_slice c.args.answers.now (cc))) c.loop-call.yielded c.loop-call.call-iterator c.loop-call.yielded_by _ c.next.new.self c.in-None.is c.next.ensures.steps in
    c.loop-call.invariant ∙ ap (λ bs. string_bytes c.args.text.now ++ bs) (sym (flat_map-map (λ p. answer_line p.0 p.1) _ c.loop-call.yielded) ∙ ap (flat_map (λ p. answer_line p.0 p.1)) end.0)
