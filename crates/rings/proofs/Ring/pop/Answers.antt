use Rattle.std.proofs.Common.{inl, inr, arith}
use Rattle.rings.specs.Held.{held}
use Rattle.rings.proofs.Turns.{items_pop}
use Rattle.rings.proofs.Ring.pop.Goals as goal
use Rattle.rings.proofs.Ring.pop.Goals.{then-self, else-self}

pub returns-clause-holds : goal.returns-clause-holds
unfolding held
returns-clause-holds g c =
    let s = c.args.self.now in
    items_pop s.places.now s.head s.len c.if-self.at c.index-self-at.result s.within.1 (omega (arith, c.if-self-eq0.false)) s.within.0
    (elim c.if-self.branch [ then-self w ↦ inl (w.if-self.true, w.at-is) | else-self w ↦ inr (w.if-self.false, w.at-is) ])
