-- What every accepted start, summons, look and settle keeps, every list of calls keeps. So the laws hold of every tally that calls lead to.
use Rattle.std.proofs.Common.{◌≡◌, ℕ, List, [], ◌∷◌, Some, None, Ok, Err, Option, Result, refl, subst}
use Rattle.std.specs.Option.{option_map}
use Rattle.std.proofs.lemmas.Bool.{cond_both}
use Rattle.refusals.specs.declared.Refusal.{Refusal}
use Rattle.sources.specs.Meaning.{Meaning, Sound}
use Rattle.auction.specs.declared.bidding.Act.{Act}
use Rattle.auction.specs.declared.bidding.Act.TheVariants.{Summon as Summons, Look as Looks}
use Rattle.auction.specs.declared.calls.Call.{Call}
use Rattle.auction.specs.declared.calls.Call.TheVariants.{Start, Summon, Look, Settle, Run, PriceOf, HolderOf, StandingOf, TotalWorth, AllCounts}
use Rattle.auction.specs.Tally.{Tally}
use Rattle.auction.specs.Rules.{between, start_answer, start_tally, start_tally_by, tally_at_start, called, settled}
use Rattle.auction.specs.Runs.{beginning, ran}
use Rattle.auction.specs.Calls.{tally_by, tally_from, tally_after}
use Rattle.auction.proofs.Invariant.{Invariant}
use Rattle.auction.proofs.InvariantKept.{at_start_invariant, call_keeps, settle_keeps}
use Rattle.auction.proofs.Steps.{steps_hold}

-- P of the tally, if there is one.
abbrev pub Holds : (Tally → Type 0) → Option Tally → Type 0
Holds P None = Unit {0}
Holds P (Some t) = P t

module _ (m : Meaning) (P : Tally → Type 0) where
  map_holds : (f : Tally → Tally) → ((t : Tally) → P t → P (f t)) → (o : Option Tally) → Holds P o → Holds P (option_map f o)
  map_holds f k None h = tt
  map_holds f k (Some t) h = k t h

  start_holds : (step lanes : ℕ) → (start_answer step lanes m ≡ Ok tt → P (tally_at_start m.carriers m.jobs step lanes)) → (o : Option Tally) → Holds P o → Holds P (start_tally step lanes m o)
  start_holds step lanes s o h = go (start_answer step lanes m) refl
    where
      go : (r : Result (Unit {0}) Refusal) → start_answer step lanes m ≡ r → Holds P (start_tally_by r (tally_at_start m.carriers m.jobs step lanes) o)
      go (Ok x) e = s e
      go (Err x) e = h

module _ (m : Meaning) (P : Tally → Type 0) (calls : (t : Tally) (i : ℕ) (act : Act) → P t → P (called m i act t)) (settles : (t : Tally) (i : ℕ) → P t → P (settled m i t)) where
  -- What an accepted start by this call leads to.
  abbrev pub Starts : Call → Type 0
  Starts c = (step lanes : ℕ) → c ≡ Start step lanes → start_answer step lanes m ≡ Ok tt → P (tally_at_start m.carriers m.jobs step lanes)

  run_holds : (depth budget : ℕ) (t : Tally) → P t → P (ran m depth budget t)
  unfolding ran beginning
  run_holds depth budget t h = cond_both {A = Tally} (between 1 128 depth) _ _ P (λ _. steps_hold m P calls settles depth budget (beginning m t) h) (λ _. h)

  pub call_holds : (o : Option Tally) (c : Call) → Starts c → Holds P o → Holds P (tally_by m o c)
  unfolding tally_by
  call_holds o (Start step lanes) s h = start_holds m P step lanes (s step lanes refl) o h
  call_holds o (Summon i) s h = map_holds m P (called m i Summons) (λ t. calls t i Summons) o h
  call_holds o (Look i) s h = map_holds m P (called m i Looks) (λ t. calls t i Looks) o h
  call_holds o (Settle i) s h = map_holds m P (settled m i) (λ t. settles t i) o h
  call_holds o (Run depth budget) s h = map_holds m P (ran m depth budget) (run_holds depth budget) o h
  call_holds o (PriceOf j) s h = h
  call_holds o (HolderOf j) s h = h
  call_holds o (StandingOf i) s h = h
  call_holds o TotalWorth s h = h
  call_holds o AllCounts s h = h

module _ (m : Meaning) (sound : Sound m) where
  calls_keep : (o : Option Tally) (calls : List Call) → Holds (Invariant m) o → Holds (Invariant m) (tally_from m o calls)
  unfolding tally_from
  calls_keep o [] h = h
  calls_keep o (c ∷ calls) h =
      calls_keep (tally_by m o c) calls
      (call_holds m (Invariant m) (λ t i act inv. call_keeps m sound t inv i act) (λ t i inv. settle_keeps m sound t inv i) o c (λ step lanes _ ok. at_start_invariant m step lanes ok) h)

  pub invariant_after : (calls : List Call) (t : Tally) → tally_after m calls ≡ Some t → Invariant m t
  invariant_after calls t e = subst (Holds (Invariant m)) e (calls_keep None calls tt)
