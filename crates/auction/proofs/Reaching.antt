-- What calls lead to, they and more calls lead to; and the laws hold of all that they lead to.
use Rattle.std.proofs.Common.{◌≡◌, List, [], ◌∷◌, ◌++◌, None, Option, sym, refl, ap, ◌∙◌, subst}
use Rattle.std.proofs.lemmas.List.Sums.{fold-append}
use mathlib.Core.Logic.{∥∥₁_elim, ∥∥₁_map}
use Rattle.sources.specs.Meaning.{Meaning, Sound}
use Rattle.auction.specs.declared.calls.Call.{Call}
use Rattle.auction.specs.Tally.{Tally}
use Rattle.auction.specs.Calls.{tally_by, tally_from}
use Rattle.auction.specs.Reached.{Reached, LawsHold}
use Rattle.auction.proofs.Props.{invariant_prop}
use Rattle.auction.proofs.CallsKeep.{invariant_after}
use Rattle.auction.proofs.LawsHold.{lawful_laws}

-- A new hall has no tally.
pub reached_none : (m : Meaning) → Reached m None
unfolding tally_from
reached_none m = ∣ ([], refl) ∣₁

pub reached_from : (m : Meaning) (o : Option Tally) (calls : List Call) → Reached m o → Reached m (tally_from m o calls)
unfolding tally_from
reached_from m o calls h = ∥∥₁_map h (λ w. (w.0 ++ calls, fold-append (tally_by m) None w.0 calls ∙ ap (λ z. tally_from m z calls) w.1))

pub reached_more : (m : Meaning) (o p : Option Tally) (c : Call) → Reached m o → p ≡ tally_by m o c → Reached m p
unfolding tally_from
reached_more m o p c h e = subst (Reached m) (sym e) (reached_from m o (c ∷ []) h)

pub reached_laws : (m : Meaning) → Sound m → (o : Option Tally) → Reached m o → LawsHold m o
reached_laws m s o h t e = lawful_laws m s t (∥∥₁_elim h (invariant_prop m t) (λ w. invariant_after m s w.0 t (w.1 ∙ e)))
