-- After a list of calls a hall is started exactly if it was before, or a start was accepted.
use Rattle.std.proofs.Common.{◌≡◌, false, ◌||◌, List, [], ◌∷◌, is_some, is_ok, Some, None, Ok, Err, Option, Result, refl, sym, ap, ◌∙◌}
use Rattle.std.specs.Option.{option_map}
use Rattle.std.proofs.Math.Bool.{or-false, or-true, or_assoc}
use Rattle.sources.specs.Meaning.{Meaning}
use Rattle.refusals.specs.declared.Refusal.{Refusal}
use Rattle.auction.specs.declared.calls.Call.{Call}
use Rattle.auction.specs.declared.calls.Call.TheVariants.{Start, Summon, Look, Settle, Run, PriceOf, HolderOf, StandingOf, TotalWorth, AllCounts}
use Rattle.auction.specs.Tally.{Tally}
use Rattle.auction.specs.Rules.{start_answer, start_tally_by, tally_at_start}
use Rattle.auction.specs.Calls.{tally_by, tally_from, is_start, has_start}

start_some : (r : Result (Unit {0}) Refusal) (new : Tally) (o : Option Tally) → is_some (start_tally_by r new o) ≡ (is_some o || is_ok r)
start_some (Ok x) new o = sym (or-true (is_some o))
start_some (Err e) new o = sym (or-false (is_some o))

map_some : (f : Tally → Tally) (o : Option Tally) → is_some (option_map f o) ≡ (is_some o || false)
map_some f None = refl
map_some f (Some t) = refl

call_some : (m : Meaning) (o : Option Tally) (c : Call) → is_some (tally_by m o c) ≡ (is_some o || is_start m c)
unfolding tally_by
call_some m o (Start step lanes) = start_some (start_answer step lanes m) (tally_at_start m.carriers m.jobs step lanes) o
call_some m o (Summon i) = map_some _ o
call_some m o (Look i) = map_some _ o
call_some m o (Settle i) = map_some _ o
call_some m o (Run depth budget) = map_some _ o
call_some m o (PriceOf j) = sym (or-false (is_some o))
call_some m o (HolderOf j) = sym (or-false (is_some o))
call_some m o (StandingOf i) = sym (or-false (is_some o))
call_some m o TotalWorth = sym (or-false (is_some o))
call_some m o AllCounts = sym (or-false (is_some o))

pub started_from : (m : Meaning) (o : Option Tally) (calls : List Call) → is_some (tally_from m o calls) ≡ (is_some o || has_start m calls)
unfolding tally_from
started_from m o [] = sym (or-false (is_some o))
started_from m o (c ∷ calls) =
    started_from m (tally_by m o c) calls ∙ ap (λ z. (z || has_start m calls)) (call_some m o c) ∙ or_assoc (is_some o) (is_start m c) (has_start m calls)
