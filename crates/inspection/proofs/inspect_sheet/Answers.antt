use Rattle.std.proofs.Common.{rules}
use Rattle.inspection.proofs.Files.{each_tells_file}
use Rattle.inspection.proofs.inspect_sheet.Goals as goal

pub returns-clause-file : goal.returns-clause-file
returns-clause-file c = each_tells_file c.args.bytes.now c.type_inv.bytes c.telling.result (search rules)
