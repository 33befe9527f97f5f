use Rattle.std.proofs.Common.{◌≤◌, length, ap, ◌∙◌, arith}
use Rattle.numbers.specs.Writing.{over}
use Rattle.sources.specs.OfSheet.{sheet_meaning}
use Rattle.sheetfile.proofs.Filling.{rewrite_ok, same_out, written_again}
use Rattle.sheetfile.proofs.Steps.{err_not_ok}
use Rattle.sheetfile.proofs.rewriting.rewrite.Goals as goal

pub returns-in_err-len : goal.returns-in_err-len
returns-in_err-len c =
    let room : length c.args.bytes.now ≤ length c.args.out.now = omega (arith, c.if-out-bytes.false) in
    let again = written_again c.args.bytes.now c.args.starts.now c.args.entries.now c.type_inv.bytes c.load_surveyed.new.starts c.load_surveyed.new.entries c.load_surveyed.ensures.starts c.load_surveyed.ensures.entries c.in_ok-heading.heading (c.in_ok-heading.ensures.answer ∙ c.in_ok-surveyed.ensures) (sheet_meaning c.in_ok-sheet.sheet) c.in_ok-sheet.ensures (length c.args.out.now) room in
    err_not_ok c.in_err-len.field-0.0 (length c.args.bytes.now) (c.in_err-len.ensures.answer ∙ again)

pub returns-clause-answer : goal.returns-clause-answer
returns-clause-answer c =
    let room : length c.args.bytes.now ≤ length c.args.out.now = omega (arith, c.if-out-bytes.false) in
    rewrite_ok c.args.bytes.now c.args.starts.now c.args.entries.now c.type_inv.bytes c.load_surveyed.new.starts c.load_surveyed.new.entries c.load_surveyed.ensures.starts c.load_surveyed.ensures.entries c.in_ok-heading.heading (c.in_ok-heading.ensures.answer ∙ c.in_ok-surveyed.ensures) (sheet_meaning c.in_ok-sheet.sheet) c.in_ok-sheet.ensures (length c.args.out.now) room c.in_ok-len.len c.in_ok-len.ensures.answer

pub returns-clause-after : goal.returns-clause-after
returns-clause-after c =
    c.in_ok-len.ensures.after
    ∙ ap (over c.args.out.now 0) (same_out c.args.bytes.now c.args.starts.now c.args.entries.now c.type_inv.bytes c.load_surveyed.new.starts c.load_surveyed.new.entries c.load_surveyed.ensures.starts c.load_surveyed.ensures.entries c.in_ok-heading.heading (c.in_ok-heading.ensures.answer ∙ c.in_ok-surveyed.ensures) (sheet_meaning c.in_ok-sheet.sheet) c.in_ok-sheet.ensures)
