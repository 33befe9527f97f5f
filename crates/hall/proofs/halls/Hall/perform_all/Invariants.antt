use Rattle.std.proofs.Common.{◌≡◌, take, drop}
use Rattle.auction.specs.Calls.{tally_from, answers_from}
use Rattle.hall.specs.InBooks.{tally_of}
use Rattle.hall.proofs.halls.Hall.perform_all.Given as goal

-- the calls so far are performed and answered
abbrev pub invariant-loop-i : goal.invariant-loop-i
invariant-loop-i g l =
    let m = g.S.Source.meaning l.initial.self.source in
    let o = tally_of l.initial.self.books in
    (l.self.source ≡ l.initial.self.source)
    × (tally_of l.self.books ≡ tally_from m o (take l.i l.calls))
    × (take l.i l.answers ≡ answers_from m o (take l.i l.calls))
    × (drop l.i l.answers ≡ drop l.i l.initial.answers)
