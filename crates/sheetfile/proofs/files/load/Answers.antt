use Rattle.std.proofs.Common.{length, Err, ap, ◌∙◌}
use Rattle.std.proofs.lemmas.Result.{err_from_is_err_and}
use Rattle.sources.specs.Tables.{entries_of, starts_of}
use Rattle.sheetfile.specs.Reading.{loaded}
use Rattle.numbers.specs.Writing.{over}
use Rattle.sheetfile.proofs.Filling.{loads_exactly, loads_then_fills}
use Rattle.sheetfile.proofs.Tables.{heading_err, updated_err}
use Rattle.sheetfile.proofs.files.load.Goals as goal

pub returns-in_err-surveyed-clause-exact : goal.returns-in_err-surveyed-clause-exact
returns-in_err-surveyed-clause-exact c =
    let p = err_from_is_err_and c.from_residual.result c.from_residual.ensures.1 in
    let v = loaded c.args.bytes.now (length c.args.starts.now) (length c.args.entries.now) in
    let e = heading_err (loaded c.args.bytes.now (length c.args.starts.now) (length c.args.entries.now)) c.in_err-surveyed.field-0.0 c.in_err-surveyed.ensures in
    loads_exactly c.args.bytes.now c.args.starts.now c.args.entries.now c.type_inv.bytes c.args.starts.now c.args.entries.now
    (updated_err v c.in_err-surveyed.field-0.0 c.args.starts.now (λ m. over c.args.starts.now 0 (starts_of m.rows)) e)
    (updated_err v c.in_err-surveyed.field-0.0 c.args.entries.now (λ m. over c.args.entries.now 0 (entries_of m.rows)) e)
    c.from_residual.result (p.1 ∙ ap Err p.2 ∙ c.in_err-surveyed.ensures)

pub returns-clause-filling : goal.returns-clause-filling
returns-clause-filling c =
    loads_then_fills c.args.bytes.now c.args.starts.now c.args.entries.now c.type_inv.bytes c.load_surveyed.new.starts c.load_surveyed.new.entries c.load_surveyed.ensures.starts c.load_surveyed.ensures.entries
    c.load_surveyed.result (c.load_surveyed.ensures.answer ∙ c.in_ok-surveyed.ensures)
