use Rattle.std.proofs.Common.{◌≡◌, length, get_or, subst, arith}
use Rattle.std.proofs.Math.Nat.{add-zero}
use Rattle.sources.specs.Meaning.{row_of}
use Rattle.sources.specs.Sheets.{no_entry}
use Rattle.sources.proofs.Visiting.{places_shown}
use Rattle.sources.proofs.showing.show_stored.Goals as goal

pub returns-in-len8 : goal.returns-in-len8
returns-in-len8 g c =
    let m = g.S.Source.meaning c.args.source.now in
    let row = row_of m c.args.carrier in
    let n : length c.args.entries.now ≡ 8 = omega arith in
    let stored = c.requires.stored in
    let first = add-zero c.args.from in
    let all = places_shown g.V.Visitor.shown row (0, 0) c.args.visitor c.args.from 0 8 (omega (arith, n, c.requires.inside)) in
    let a = c.entry_made.ensures (subst (λ j. g.S.Source.entry_stored c.args.source.now c.args.carrier j c.args.quick (get_or c.args.entries.now 0 no_entry)) first (stored 0 (omega arith))) in
    let b = c.entry_made-in-len8.ensures (stored 1 (omega arith)) in
    let d = c.entry_made-in-len8-2.ensures (stored 2 (omega arith)) in
    let e = c.entry_made-in-len8-3.ensures (stored 3 (omega arith)) in
    let f = c.entry_made-in-len8-4.ensures (stored 4 (omega arith)) in
    let h = c.entry_made-in-len8-5.ensures (stored 5 (omega arith)) in
    let i = c.entry_made-in-len8-6.ensures (stored 6 (omega arith)) in
    let j = c.entry_made-in-len8-7.ensures (stored 7 (omega arith)) in
    let k = c.see-visitor.ensures in
    let l = c.see-visitor-in-len8.ensures in
    let o = c.see-visitor-in-len8-2.ensures in
    let p = c.see-visitor-in-len8-3.ensures in
    let q = c.see-visitor-in-len8-4.ensures in
    let r = c.see-visitor-in-len8-5.ensures in
    let s = c.see-visitor-in-len8-6.ensures in
    let t = c.see.ensures in
    cc
