use Rattle.std.proofs.Common.{refl, rules}
use Rattle.sources.specs.OfSheet.{sheet_meaning}
use Rattle.sources.specs.Sheets.{sheet_of}
use Rattle.sources.proofs.Tables.{fills_exactly}
use Rattle.sources.proofs.sheets.Sheet.fill.Goals as goal

pub returns-in_err-fill_verdict-clause-exact : goal.returns-in_err-fill_verdict-clause-exact
returns-in_err-fill_verdict-clause-exact c =
    fills_exactly c.args.heading c.args.starts.now c.args.entries.now _ (sheet_meaning c.args.self.now) (sheet_meaning c.args.self.now) (search rules) (search rules)

pub returns-clause-exact : goal.returns-clause-exact
returns-clause-exact c =
    fills_exactly c.args.heading c.args.starts.now c.args.entries.now _ (sheet_of c.args.heading c.args.starts.now c.args.entries.now) (sheet_meaning c.args.self.now) (search rules) refl
