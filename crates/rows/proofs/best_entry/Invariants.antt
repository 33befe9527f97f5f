use Rattle.std.proofs.Common.{drop}
use Rattle.sources.specs.Meaning.{row_of}
use Rattle.rows.proofs.Entries.{BestSoFar}
use Rattle.rows.proofs.best_entry.Given as goal

abbrev pub invariant-loop-job : goal.invariant-loop-job
invariant-loop-job g l =
    let it = l.job-iterator in
    BestSoFar (row_of (g.S.Source.meaning l.source) l.carrier) l.yielded (drop it.places.start (row_of (g.S.Source.meaning it.source.now) it.carrier)) l.best
