use Rattle.sheetfile.specs.States.{stand}
use Rattle.sheetfile.proofs.Loading.{Underway}
use Rattle.sheetfile.proofs.files.load_surveyed.Given as goal

abbrev pub invariant-loop-i : goal.invariant-loop-i
invariant-loop-i l = Underway l.bytes l.initial.starts l.initial.entries l._i-end l._i (stand l.loader) l.starts l.entries
