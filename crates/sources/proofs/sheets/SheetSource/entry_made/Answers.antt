use Rattle.std.proofs.Common.{ap, ◌∙◌}
use Rattle.sources.specs.Sheets.{pair_of}
use Rattle.sources.proofs.Visiting.{entry_paired}
use Rattle.sources.proofs.sheets.SheetSource.entry_made.Goals as goal

pub returns : goal.returns
returns c is =
    let s = c.args.self.now in
    ap pair_of is ∙ entry_paired s.heading s.starts.now s.entries.now c.args._carrier c.args._index
