use Rattle.std.proofs.Common.{◌≡◌, length, IsOkAnd, Ok, string_bytes, sym, subst, arith}
use Rattle.sources.specs.OfSheet.{sheet_meaning}
use Rattle.sheetfile.specs.Reading.{loaded}
use Rattle.inspection.specs.Listing.{sheet_text}
use Rattle.inspection.proofs.list_file.Goals as goal

pub returns : goal.returns
returns c =
    let bs = c.args.bytes.now in
    let told : loaded bs (length c.args.starts.now) (length c.args.entries.now) ≡ Ok (sheet_meaning c.in_ok-sheet.sheet) = grind (arith) in
    subst (λ r. IsOkAnd r (λ m. string_bytes c.in_ok-list_sheet.field-0 ≡ sheet_text m (length bs))) (sym told) c.in_ok-list_sheet.ensures
