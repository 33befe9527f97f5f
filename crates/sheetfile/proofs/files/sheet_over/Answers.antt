use Rattle.std.proofs.Common.{◌+◌, Err, ap, ◌∙◌}
use Rattle.std.specs.Result.{result_map_both}
use Rattle.std.proofs.lemmas.Result.{err_from_is_err_and}
use Rattle.sources.specs.OfSheet.{sheet_meaning}
use Rattle.sheetfile.proofs.Filling.{front_is, sheet_refused, sheet_told}
use Rattle.sheetfile.proofs.files.sheet_over.Goals as goal

pub returns-in_err-fill : goal.returns-in_err-fill
returns-in_err-fill c =
    let p = err_from_is_err_and c.from_residual.result c.from_residual.ensures.1 in
    let cut = ap (λ x. x.now) c.unwrap_or-front.ensures ∙ front_is c.get.result c.args.starts (c.args.heading.carriers + 1) c.get.ensures.lookup.0 in
    ap (result_map_both sheet_meaning (λ e. e)) (p.1 ∙ ap Err p.2)
    ∙ sheet_refused c.args.heading c.args.starts.now _ c.args.entries.now cut c.fill.result c.fill.ensures.verdict c.in_err-fill.field-0.0 c.in_err-fill.was

pub returns : goal.returns
returns c =
    let cut = ap (λ x. x.now) c.unwrap_or-front.ensures ∙ front_is c.get.result c.args.starts (c.args.heading.carriers + 1) c.get.ensures.lookup.0 in
    sheet_told c.args.heading c.args.starts.now _ c.args.entries.now cut c.fill.result c.fill.ensures.verdict c.in_ok-fill.was _ (sheet_meaning c.fill.new.self) c.fill.ensures.means
