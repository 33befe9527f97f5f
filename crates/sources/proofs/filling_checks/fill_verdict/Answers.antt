use Rattle.std.proofs.Common.{length, arith, sym, ◌∙◌}
use Rattle.sources.specs.Laws.Starts.{started}
use Rattle.sources.proofs.filling_checks.fill_verdict.Goals as goal

pub entry_refusal-requires-clause-rises : goal.entry_refusal-requires-clause-rises
entry_refusal-requires-clause-rises c i l =
    let s = started c.args.heading c.args.starts.now (length c.args.entries.now) (sym c.starts_good.ensures ∙ c.if-not-starts_good.false) in
    s.rises i (omega (arith, s.counted))
