use Rattle.std.proofs.Common.{◌<◌, length, inl, inr, arith}
use Rattle.rings.specs.Held.{held}
use Rattle.rings.proofs.Turns.{Place, items_push}
use Rattle.rings.proofs.Ring.push.Goals as goal
use Rattle.rings.proofs.Ring.push.Goals.{then-self-back, else-self-back}

pub returns-clause-holds : goal.returns-clause-holds
unfolding held
returns-clause-holds g c =
    let s = c.args.self.now in
    let ps = s.places.now in
    let small : s.len < length ps = omega (arith, s.within.0) in
    let place : Place (length ps) s.head s.len c.if-self-back.at =
    elim c.if-self-back.branch [ then-self-back w ↦ inl (w.if-self-back.true, w.at-is) | else-self-back w ↦ inr (w.if-self-back.false, w.at-is) ] in
    items_push ps s.head s.within.1 s.len c.if-self-back.at c.args.x small place
