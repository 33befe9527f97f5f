use Rattle.std.proofs.Common.{◌≡◌, ◌-◌, take, drop, fold}
use Rattle.sources.specs.Meaning.{row_of}
use Rattle.sources.proofs.showing.show_asked.Given as goal

-- The visitor was shown the part's entries up to here.
abbrev pub invariant-loop-index : goal.invariant-loop-index
invariant-loop-index g l =
    record {
      shown : l.visitor ≡ fold g.V.Visitor.shown l.initial.visitor (take (l.index - l.initial.index) (drop l.initial.index (row_of (g.S.Source.meaning l.source) l.carrier)));
    }
