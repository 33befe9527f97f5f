use Rattle.std.proofs.Common.{sym, ap, ◌∙◌, arith}
use Rattle.sheetfile.specs.Tables.{heading_answer}
use Rattle.sheetfile.proofs.Filling.{heading_told, loads_file, sheet_there, within_loaded}
use Rattle.sheetfile.proofs.files.load_within.Goals as goal

pub returns-clause-filling : goal.returns-clause-filling
returns-clause-filling c =
    c.load.ensures.filling ∙ sym (within_loaded c.args.bytes.now _ _ (omega (arith, c.if-bytes-gt-MOST_BYTES.false)) c.told-starts c.told-entries)

pub returns-clause-file : goal.returns-clause-file
returns-clause-file c = loads_file _ _ _ _ _ _ c.load.ensures.exact

pub returns-clause-every : goal.returns-clause-every
returns-clause-every c m is short few =
    let e = within_loaded c.args.bytes.now _ _ short c.told-starts c.told-entries in
    let ok = heading_told c.args.bytes.now m is short few c.load.result (c.load.ensures.answer ∙ sym (ap heading_answer e)) in
    (ok, sheet_there c.args.bytes.now m is short few c.load.result _ _ ok (c.load.ensures.filling ∙ sym e))
