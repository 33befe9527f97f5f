use Rattle.std.proofs.Common.{◌≡◌, ◌+◌, take, drop, fold}
use Rattle.sources.specs.Meaning.{row_of}
use Rattle.sources.proofs.showing.show_stored.Given as goal

-- The visitor was shown what is made of the entries up to here.
abbrev pub invariant-loop-entry : goal.invariant-loop-entry
invariant-loop-entry g l =
    record {
      place : l.index ≡ l.from + l.entry-index;
      shown : l.visitor ≡ fold g.V.Visitor.shown l.initial.visitor (take l.entry-index (drop l.from (row_of (g.S.Source.meaning l.source) l.carrier)));
    }
