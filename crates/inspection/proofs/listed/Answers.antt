use Rattle.std.proofs.Common.{length, sym, subst, arith}
use Rattle.sheetfile.proofs.Filling.{within_loaded}
use Rattle.inspection.specs.Inspected.{Lists}
use Rattle.inspection.proofs.listed.Goals as goal

pub returns : goal.returns
returns c =
    let bs = c.args.bytes.now in
    let same = within_loaded bs (length c.deref_mut.result.now) (length c.deref_mut-2.result.now) (omega (arith, c.if-bytes-gt-MOST_BYTES.false))
    (omega (arith, c.deref_mut.ensures.len, c.in_ok-starts.ensures.len)) (omega (arith, c.deref_mut-2.ensures.len, c.in_ok-entries.ensures.len)) in
    subst (λ r. Lists (length bs) r c.list_file.result) (sym same) c.list_file.ensures
