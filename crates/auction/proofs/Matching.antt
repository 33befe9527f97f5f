-- Holders and standings that match, and standings where a former holder waits.
use Rattle.std.proofs.Common.{◌≡◌, ℕ, ◌<◌, Bool, true, false, List, length, get_or, Some, None, count_by, Option, sym, refl, ap, ◌∙◌, ⊎_elim, arith}
use Rattle.std.proofs.lemmas.Bool.{cases_lt, both_ways, eqb-true, eqb-false, eq-eqb, ne_eqb}
use Rattle.std.proofs.lemmas.List.{get_or-set_same, get_or-set_other, length-set, get_or_past}
use Rattle.auction.specs.declared.bidding.Held.{Held}
use Rattle.auction.specs.declared.bidding.Standing.{Standing}
use Rattle.auction.specs.declared.bidding.Standing.TheVariants.{Waiting, Served, Out}
use Rattle.auction.specs.Standings.{is_served, holds_job}
use Rattle.auction.specs.Tally.{Tally, holder_at, standing_at, is_holder}
use Rattle.auction.specs.Rules.{freed}
use Rattle.auction.specs.Consistent.{Consistent}
use Rattle.auction.proofs.Counted.{one, count_set}

-- Who is not served holds no job.
pub holds_none : (j : ℕ) (s : Standing) → is_served s ≡ false → holds_job j s ≡ false
holds_none j (Served h) e = absurd (both_ways true e refl)
holds_none j _ e = refl

pub holds_served : (j : ℕ) (s : Standing) → holds_job j s ≡ true → (h : Held) × (s ≡ Served h) × (h.job ≡ j)
holds_served j (Served h) e = (h, refl, eqb-true h.job j e)
holds_served j _ e = absurd (both_ways false refl e)

-- A carrier holds one job at most.
pub holds_other : (j k : ℕ) (s : Standing) → holds_job j s ≡ true → (k ≡ j → ⊥) → holds_job k s ≡ false
holds_other j k (Served h) e n = ne_eqb h.job k (λ q. n (sym q ∙ eqb-true h.job j e))
holds_other j k _ e n = refl

pub is_holder_lem : (i : ℕ) (o : Option ℕ) → is_holder i o ≡ true → o ≡ Some i
is_holder_lem i None e = absurd (both_ways false refl e)
is_holder_lem i (Some k) e = ap Some (eqb-true k i e)

pub holder_is : (i : ℕ) (o : Option ℕ) → o ≡ Some i → is_holder i o ≡ true
holder_is i o e = ap (is_holder i) e ∙ eq-eqb i i refl

-- Who holds a job stands within the list.
pub holds_within : (ss : List Standing) (j k : ℕ) → holds_job j (get_or ss k Out) ≡ true → k < length ss
holds_within ss j k e =
    ⊎_elim (λ l. l) (λ l. absurd (both_ways (holds_job j (get_or ss k Out)) (ap (holds_job j) (get_or_past ss k Out l)) e)) (cases_lt k (length ss))

pub served_within : (ss : List Standing) (k : ℕ) (h : Held) → get_or ss k Out ≡ Served h → k < length ss
served_within ss k h e = holds_within ss h.job k (ap (holds_job h.job) e ∙ eq-eqb h.job h.job refl)

-- ---- what the matching says, of a served carrier and of a holder

module _ (carriers jobs ceiling : ℕ) (t : Tally) (con : Consistent carriers jobs ceiling t) where
  pub holder_of : (i : ℕ) (h : Held) → standing_at t i ≡ Served h → holder_at t h.job ≡ Some i
  holder_of i h e =
      is_holder_lem i (holder_at t h.job) (con.matched i h.job ∙ ap (holds_job h.job) e ∙ eq-eqb h.job h.job refl)

  pub holder_holds : (j i : ℕ) → holder_at t j ≡ Some i → holds_job j (standing_at t i) ≡ true
  holder_holds j i e = sym (con.matched i j) ∙ holder_is i (holder_at t j) e

  pub holder_served : (j i : ℕ) → holder_at t j ≡ Some i → (h : Held) × (standing_at t i ≡ Served h) × (h.job ≡ j)
  holder_served j i e = holds_served j (standing_at t i) (holder_holds j i e)

  pub holder_known : (j i : ℕ) → holder_at t j ≡ Some i → i < carriers
  holder_known j i e = let l = holds_within t.standings j i (holder_holds j i e) in let z = con.standings_sized in omega arith

-- ---- the former holder waits

pub length-freed : (ss : List Standing) (o : Option ℕ) → length (freed ss o) ≡ length ss
length-freed ss None = refl
length-freed ss (Some k) = length-set ss k Waiting

pub freed_other : (ss : List Standing) (o : Option ℕ) (k : ℕ) → is_holder k o ≡ false → get_or (freed ss o) k Out ≡ get_or ss k Out
freed_other ss None k n = refl
freed_other ss (Some h) k n = get_or-set_other ss h k Waiting Out (λ e. eqb-false h k n (sym e))

pub freed_waits : (ss : List Standing) (o : Option ℕ) (k : ℕ) → is_holder k o ≡ true → k < length ss → get_or (freed ss o) k Out ≡ Waiting
freed_waits ss o k e l = ap (λ q. get_or (freed ss q) k Out) (is_holder_lem k o e) ∙ get_or-set_same ss k Waiting Out l

-- What counts neither who is served nor who waits stays.
pub freed_count : (p : Standing → Bool) → ((h : Held) → p (Served h) ≡ false) → p Waiting ≡ false → (ss : List Standing) (j : ℕ) (o : Option ℕ) →
    ((k : ℕ) → o ≡ Some k → holds_job j (get_or ss k Out) ≡ true) → count_by p (freed ss o) ≡ count_by p ss
freed_count p s w ss j None h = refl
freed_count p s w ss j (Some k) h =
    let v = holds_served j (get_or ss k Out) (h k refl) in
    let c = count_set p ss k Waiting Out (holds_within ss j k (h k refl)) in
    let y : one (p (get_or ss k Out)) ≡ 0 = ap (λ q. one (p q)) v.1 ∙ ap one (s v.0) in
    let z : one (p Waiting) ≡ 0 = ap one w in
    omega (arith, c, y, z)
