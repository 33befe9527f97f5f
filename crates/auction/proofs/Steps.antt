-- The steps of a run: line and flight stay in order, no count falls, each summons, award, stale bid and out takes a step, and a run is spent only if each step of the budget was made.
use Rattle.std.proofs.Common.{◌≡◌, ℕ, zero, suc, ◌+◌, ◌-◌, ◌/◌, ◌<◌, ◌≤◌, min, Bool, true, false, cond, eqb, ltb, leb, ◌⊎◌, List, [], ◌∷◌, ◌++◌, length, get_or, set, pos, Some, None, Ok, Err, count_by, Option, Result, sym, refl, ap, ◌∙◌, subst, inl, inr, ⊎_elim, arith}
use lib.Signed.{lt_z}
use Rattle.std.specs.Option.{option_to_list}
use Rattle.std.specs.List.{AllByRecursion}
use Rattle.std.proofs.Math.Nat.{div-eq_of_lt, add-div_right}
use Rattle.std.proofs.lemmas.Bool.{cases_lt, cond_both, cond-true, cond-false, eq-eqb, lt-ltb, le-leb, lt-leb, false≢true}
use Rattle.std.proofs.lemmas.List.{append-nil}
use Rattle.std.proofs.lemmas.List.Sums.{sum_by-cons}
use Rattle.sources.specs.Meaning.{Meaning, Sound, row_of}
use Rattle.refusals.specs.declared.Refusal.{Refusal}
use Rattle.auction.specs.declared.bidding.Best.{Best}
use Rattle.auction.specs.declared.bidding.Bid.{Bid}
use Rattle.auction.specs.declared.bidding.Counts.{Counts}
use Rattle.auction.specs.declared.bidding.Act.{Act}
use Rattle.auction.specs.declared.bidding.Act.TheVariants.{Summon, Look, Settle}
use Rattle.auction.specs.declared.bidding.InFlight.{InFlight}
use Rattle.auction.specs.declared.bidding.Standing.{Standing}
use Rattle.auction.specs.declared.bidding.Standing.TheVariants.{Waiting, Bidding, Served, Out}
use Rattle.auction.specs.declared.bidding.Verdict.{Verdict}
use Rattle.auction.specs.declared.bidding.Verdict.TheVariants.{Out as GoesOut, Stale, Awarded}
use Rattle.auction.specs.declared.bidding.Ending.{Ending}
use Rattle.auction.specs.declared.bidding.Ending.TheVariants.{Done, Spent}
use Rattle.auction.specs.Standings.{is_waiting, is_bidding, is_served, if_waiting, in_flight, looks_for, if_bidding}
use Rattle.auction.specs.Tally.{Tally, holder_at, standing_at}
use Rattle.auction.specs.Bids.{new_bid, looked_on, offer, judged_best, best_worth}
use Rattle.auction.specs.Rules.{looked_all, bid_after, bid_at, if_accepted, counted, bids, called, freed, carried_out, verdict_in, verdict_from, settle_answer, ended, settled}
use Rattle.auction.specs.Consistent.{Consistent}
use Rattle.auction.specs.Runs.{RunState, gathered, beginning, waits_after, joins_line, first_acts, step_by, one_step, many_steps, ending_of, run_report, Reports}
use Rattle.auction.specs.InOrder.{times_in, Due, InOrder, Ordered, Grown}
use Rattle.auction.proofs.Gathering.{looks_on}
use Rattle.auction.proofs.Counted.{one}
use Rattle.auction.proofs.Matching.{holder_served}
use Rattle.auction.proofs.Keeping.{call_consistent, settle_consistent}
use Rattle.auction.proofs.Queues.{times_first, times_later, times_count, Lowest, gathered_at, gathered_lowest, bidding_within, is_waiting_lem, within, joins, rotates, leaves, returns, displaces}

-- ---- what every summons, look and settle keeps, each step keeps

module _ (m : Meaning) (P : Tally → Type 0) (calls : (t : Tally) (i : ℕ) (act : Act) → P t → P (called m i act t)) (settles : (t : Tally) (i : ℕ) → P t → P (settled m i t)) where
  first_holds : (i left : ℕ) (line : List ℕ) (flight : List InFlight) (t : Tally) (n : ℕ) → P t → P (first_acts m i left line flight t n).tally
  first_holds i zero line flight t n h = settles t i h
  first_holds i (suc left) line flight t n h = calls t i Look h

  step_by_holds : (short : Bool) (line : List ℕ) (flight : List InFlight) (t : Tally) (n : ℕ) → P t → P (step_by m short line flight t n).tally
  step_by_holds true [] [] t n h = h
  step_by_holds true [] (f ∷ flight) t n h = first_holds f.carrier f.looks_left [] flight t n h
  step_by_holds true (i ∷ line) flight t n h = calls t i Summon h
  step_by_holds false line [] t n h = h
  step_by_holds false line (f ∷ flight) t n h = first_holds f.carrier f.looks_left line flight t n h

  pub step_holds : (depth : ℕ) (r : RunState) → P r.tally → P (one_step m depth r).tally
  unfolding one_step
  step_holds depth r h = step_by_holds (ltb (length r.flight) depth) r.line r.flight r.tally r.steps h

  pub steps_hold : (depth n : ℕ) (r : RunState) → P r.tally → P (many_steps m depth n r).tally
  unfolding many_steps
  steps_hold depth zero r h = h
  steps_hold depth (suc n) r h = steps_hold depth n (one_step m depth r) (step_holds depth r h)

-- ---- no count falls

same_grown : (n : Counts) → Grown n n
same_grown n = record { summonses_grow = omega arith; awards_grow = omega arith; stales_grow = omega arith; outs_grow = omega arith }

if_accepted_grows : (f : Bid → Tally → Tally) (n : Counts) (t : Tally) → ((b : Bid) → Grown n (f b t).counts) → Grown n t.counts → (r : Result Bid Refusal) → Grown n (if_accepted r f t).counts
if_accepted_grows f n t h g (Ok b) = h b
if_accepted_grows f n t h g (Err e) = g

call_grows : (m : Meaning) (n : Counts) (t : Tally) (i : ℕ) (act : Act) → Grown n t.counts → Grown n (called m i act t).counts
call_grows m n t i act g = if_accepted_grows (bids act i) n t (λ b. more act) g (bid_at m i act t)
  where
    more : (a : Act) → Grown n (counted a t.counts)
    more Summon = record { summonses_grow = omega (arith, g.summonses_grow); awards_grow = g.awards_grow; stales_grow = g.stales_grow; outs_grow = g.outs_grow }
    more Look = g
    more Settle = g

settle_grows : (m : Meaning) (n : Counts) (t : Tally) (i : ℕ) → Grown n t.counts → Grown n (settled m i t).counts
settle_grows m n t i g = if_accepted_grows (ended i) n t (λ b. more (best_worth b.best) (verdict_in t b)) g (bid_at m i Settle t)
  where
    more : (w : ℕ) (v : Verdict) → Grown n (carried_out i w v t).counts
    more w GoesOut = record { summonses_grow = g.summonses_grow; awards_grow = g.awards_grow; stales_grow = g.stales_grow; outs_grow = omega (arith, g.outs_grow) }
    more w Stale = record { summonses_grow = g.summonses_grow; awards_grow = g.awards_grow; stales_grow = omega (arith, g.stales_grow); outs_grow = g.outs_grow }
    more w (Awarded a) = record { summonses_grow = g.summonses_grow; awards_grow = omega (arith, g.awards_grow); stales_grow = g.stales_grow; outs_grow = g.outs_grow }

pub steps_grow : (m : Meaning) (depth n : ℕ) (r : RunState) → Grown r.tally.counts (many_steps m depth n r).tally.counts
steps_grow m depth n r =
    steps_hold m (λ t. Grown r.tally.counts t.counts) (call_grows m r.tally.counts) (settle_grows m r.tally.counts) depth n r (same_grown r.tally.counts)

-- ---- each summons, award, stale bid and out takes a step of its own

abbrev all_made : Counts → ℕ
all_made n = n.summonses + n.awards + n.stales + n.outs

if_accepted_made : (f : Bid → Tally → Tally) (t : Tally) → ((b : Bid) → all_made (f b t).counts ≤ all_made t.counts + 1) → (r : Result Bid Refusal) → all_made (if_accepted r f t).counts ≤ all_made t.counts + 1
if_accepted_made f t h (Ok b) = h b
if_accepted_made f t h (Err e) = omega arith

call_made : (m : Meaning) (t : Tally) (i : ℕ) (act : Act) → all_made (called m i act t).counts ≤ all_made t.counts + 1
call_made m t i act = if_accepted_made (bids act i) t (λ b. more act) (bid_at m i act t)
  where
    more : (a : Act) → all_made (counted a t.counts) ≤ all_made t.counts + 1
    more Summon = omega arith
    more Look = omega arith
    more Settle = omega arith

settle_made : (m : Meaning) (t : Tally) (i : ℕ) → all_made (settled m i t).counts ≤ all_made t.counts + 1
settle_made m t i = if_accepted_made (ended i) t (λ b. more (best_worth b.best) (verdict_in t b)) (bid_at m i Settle t)
  where
    more : (w : ℕ) (v : Verdict) → all_made (carried_out i w v t).counts ≤ all_made t.counts + 1
    more w GoesOut = omega arith
    more w Stale = omega arith
    more w (Awarded a) = omega arith

module _ (m : Meaning) where
  -- After at most k steps from t and n on, no more was made than there were steps.
  abbrev Covers : ℕ → Tally → ℕ → RunState → Type 0
  Covers k t n r = (all_made r.tally.counts + n ≤ all_made t.counts + r.steps) × (r.steps ≤ n + k)

  first_covers : (i left : ℕ) (line : List ℕ) (flight : List InFlight) (t : Tally) (n : ℕ) → Covers 1 t n (first_acts m i left line flight t n)
  first_covers i zero line flight t n = (omega (arith, settle_made m t i), omega arith)
  first_covers i (suc left) line flight t n = (omega (arith, call_made m t i Look), omega arith)

  step_by_covers : (short : Bool) (line : List ℕ) (flight : List InFlight) (t : Tally) (n : ℕ) → Covers 1 t n (step_by m short line flight t n)
  step_by_covers true [] [] t n = (omega arith, omega arith)
  step_by_covers true [] (f ∷ flight) t n = first_covers f.carrier f.looks_left [] flight t n
  step_by_covers true (i ∷ line) flight t n = (omega (arith, call_made m t i Summon), omega arith)
  step_by_covers false line [] t n = (omega arith, omega arith)
  step_by_covers false line (f ∷ flight) t n = first_covers f.carrier f.looks_left line flight t n

  step_covers : (depth : ℕ) (r : RunState) → Covers 1 r.tally r.steps (one_step m depth r)
  unfolding one_step
  step_covers depth r = step_by_covers (ltb (length r.flight) depth) r.line r.flight r.tally r.steps

  pub steps_cover : (depth k : ℕ) (r : RunState) → Covers k r.tally r.steps (many_steps m depth k r)
  unfolding many_steps
  steps_cover depth zero r = (omega arith, omega arith)
  steps_cover depth (suc k) r =
      let a = step_covers depth r in let b = steps_cover depth k (one_step m depth r) in (omega (arith, a.0, b.0), omega (arith, a.1, b.1))

-- ---- the looks that go through n entries

-- Where no entry is left, none; otherwise a look takes one off.
looks_none : (lanes n : ℕ) → 1 ≤ lanes → n ≡ 0 → looks_for lanes n ≡ 0
looks_none lanes n h e = div-eq_of_lt (omega (arith, h, e))

looks_some : (lanes n : ℕ) → 1 ≤ lanes → 1 ≤ n → looks_for lanes n ≡ looks_for lanes (n - min lanes n) + 1
looks_some lanes n h some =
    ⊎_elim
    (λ l. let a = add-div_right (n - 1) h in
    let b : (n - 1) / lanes ≡ 0 = div-eq_of_lt (omega arith) in
    let c = looks_none lanes (n - min lanes n) h (omega (arith, l)) in
    let e : (n + (lanes - 1)) / lanes ≡ ((n - 1) + lanes) / lanes = ap (λ z. z / lanes) (omega arith) in
    omega (arith, a, b, c, e))
    (λ l. let a = add-div_right ((n - min lanes n) + (lanes - 1)) h in
    let e : (n + (lanes - 1)) / lanes ≡ (((n - min lanes n) + (lanes - 1)) + lanes) / lanes = ap (λ z. z / lanes) (omega (arith, l)) in
    omega (arith, a, e))
    (cases_lt n lanes)

-- ---- line and flight stay in order

-- What an award displaces is the holder.
abbrev Former : Tally → Verdict → Type 0
Former t GoesOut = Unit {0}
Former t Stale = Unit {0}
Former t (Awarded a) = a.displaced ≡ holder_at t a.job

judged_former : (t : Tally) (r : ℕ) (o : Option Best) → Former t (judged_best t.step t.prices t.holders r o)
judged_former t r None = tt
judged_former t r (Some x) =
    cond_both {A = Verdict} (lt_z (pos 0) x.net) _ _ (Former t)
    (λ _. cond_both {A = Verdict} (leb (offer t.step r x) (get_or t.prices x.job 0)) _ _ (Former t) (λ _. tt) (λ _. refl)) (λ _. tt)

module _ (m : Meaning) where
  abbrev InTally : List ℕ → List InFlight → Tally → Type 0
  InTally line flight t = InOrder m t.lanes line flight t.standings

  -- A known carrier is answered by its standing.
  bid_at_lem : (i : ℕ) (act : Act) (t : Tally) (s : Standing) → i < m.carriers → standing_at t i ≡ s → bid_at m i act t ≡ bid_after t.lanes t.prices (row_of m i) s act
  unfolding bid_at
  bid_at_lem i act t s l e =
      cond-true {A = Result Bid Refusal} (ltb i m.carriers) _ _ (lt-ltb i m.carriers l) ∙ ap (λ z. bid_after t.lanes t.prices (row_of m i) z act) e

  module _ (t : Tally) (con : Consistent m.carriers m.jobs m.ceiling t) where
    -- Who is in line waits, so that a summons is accepted.
    module _ (i : ℕ) (line : List ℕ) (flight : List InFlight) (law : InTally (i ∷ line) flight t) where
      waits : 1 ≤ one (is_waiting (standing_at t i))
      waits = omega (arith, times_first (λ z. z) i line, law.waits i)

      pub summon_taken : bid_at m i Summon t ≡ Ok new_bid
      summon_taken = bid_at_lem i Summon t Waiting (omega (arith, within is_waiting refl t.standings i waits, con.standings_sized)) (is_waiting_lem (standing_at t i) waits)

      abbrev n : ℕ
      n = looks_for t.lanes (length (row_of m i))

      summons : InTally line (flight ++ in_flight i n ∷ []) (called m i Summon t)
      summons =
          subst (λ r. InTally line (flight ++ in_flight i n ∷ []) (if_accepted r (bids Summon i) t)) (sym summon_taken)
          (joins m t.lanes i n line flight t.standings new_bid law (ap (looks_for t.lanes) (omega arith)))

    -- Who is first in flight has a bid that has entries left to look at exactly if it has looks left, so that a look or a settle is accepted.
    module _ (f : InFlight) (line : List ℕ) (flight : List InFlight) (law : InTally line (f ∷ flight) t) where
      abbrev due : Due m t.lanes t.standings f
      due = law.due.0

      abbrev row : List (ℕ × ℕ)
      row = row_of m f.carrier

      abbrev unseen : ℕ
      unseen = length row - due.0.looked

      among : f.carrier < m.carriers
      among = omega (arith, bidding_within t.standings f.carrier due.0 due.1, con.standings_sized)

      abbrev further : Bid
      further = looked_on t.lanes t.prices row due.0

      entries_left : (left : ℕ) → f.looks_left ≡ suc left → 1 ≤ unseen
      entries_left left e =
          ⊎_elim (λ l. let z = looks_none t.lanes unseen con.limits.some_lanes (omega (arith, l)) in absurd (omega (arith, e, due.2, z))) (λ l. l)
          (cases_lt unseen 1)

      pub look_taken : (left : ℕ) → f.looks_left ≡ suc left → bid_at m f.carrier Look t ≡ Ok further
      look_taken left e =
          bid_at_lem f.carrier Look t (Bidding due.0) among due.1
          ∙ cond-false {A = Result Bid Refusal} (looked_all row due.0) _ _ (lt-leb (length row) due.0.looked (let l = entries_left left e in omega (arith, l)))

      looks : (left : ℕ) → f.looks_left ≡ suc left → InTally line (flight ++ in_flight f.carrier left ∷ []) (called m f.carrier Look t)
      looks left e =
          subst (λ r. InTally line (flight ++ in_flight f.carrier left ∷ []) (if_accepted r (bids Look f.carrier) t)) (sym (look_taken left e))
          (rotates m t.lanes f line flight t.standings law left further
          (let q : looks_for t.lanes (unseen - min t.lanes unseen) ≡ looks_for t.lanes (length row - further.looked) =
          ap (looks_for t.lanes) (omega (arith, (looks_on t.prices t.lanes row due.0).further)) in
          omega (arith, looks_some t.lanes unseen con.limits.some_lanes (entries_left left e), e, due.2, q)))

      gone : (s : Standing) → is_waiting s ≡ false → is_bidding s ≡ false → InOrder m t.lanes (line ++ []) flight (set t.standings f.carrier s)
      gone s w b = subst (λ z. InOrder m t.lanes z flight (set t.standings f.carrier s)) (sym (append-nil line)) (leaves m t.lanes f line flight t.standings law s w b)

      ends : (w : ℕ) (v : Verdict) → Former t v → InTally (line ++ option_to_list (waits_after f.carrier v)) flight (carried_out f.carrier w v t)
      ends w GoesOut q = gone Out refl refl
      ends w Stale q = returns m t.lanes f line flight t.standings law
      ends w (Awarded a) q = awards a.displaced (λ k e. let h = holder_served m.carriers m.jobs m.ceiling t con a.job k (sym q ∙ e) in ap is_served h.1)
        where
          awards : (o : Option ℕ) → ((k : ℕ) → o ≡ Some k → is_served (standing_at t k) ≡ true) →
              InOrder m t.lanes (line ++ option_to_list o) flight (set (freed t.standings o) f.carrier (Served (record { job = a.job; worth = w })))
          awards None s = gone (Served (record { job = a.job; worth = w })) refl refl
          awards (Some k) s =
              leaves m t.lanes f (line ++ k ∷ []) flight (set t.standings k Waiting)
              (displaces m t.lanes k line (f ∷ flight) t.standings (s k refl) law) (Served (record { job = a.job; worth = w })) refl refl

      pub settle_taken : f.looks_left ≡ 0 → bid_at m f.carrier Settle t ≡ Ok due.0
      settle_taken e =
          bid_at_lem f.carrier Settle t (Bidding due.0) among due.1
          ∙ cond-true {A = Result Bid Refusal} (looked_all row due.0) _ _
          (le-leb (length row) due.0.looked
          (⊎_elim (λ l. let s = looks_some t.lanes unseen con.limits.some_lanes l in absurd (omega (arith, e, due.2, s))) (λ l. omega (arith, l))
          (cases_lt 0 unseen)))

      settles : f.looks_left ≡ 0 → InTally (line ++ joins_line f.carrier (settle_answer f.carrier m (Some t))) flight (settled m f.carrier t)
      settles e =
          subst (λ r. InTally (line ++ joins_line f.carrier (verdict_from t r)) flight (if_accepted r (ended f.carrier) t)) (sym (settle_taken e))
          (ends (best_worth due.0.best) (verdict_in t due.0) (judged_former t due.0.runner_up due.0.best))

      first_ordered : (left n : ℕ) → f.looks_left ≡ left → Ordered m (first_acts m f.carrier left line flight t n)
      first_ordered zero n e = settles e
      first_ordered (suc left) n e = looks left e

    step_by_ordered : (short : Bool) (line : List ℕ) (flight : List InFlight) (n : ℕ) → InTally line flight t → Ordered m (step_by m short line flight t n)
    step_by_ordered true [] [] n law = law
    step_by_ordered true [] (f ∷ flight) n law = first_ordered f [] flight law f.looks_left n refl
    step_by_ordered true (i ∷ line) flight n law = summons i line flight law
    step_by_ordered false line [] n law = law
    step_by_ordered false line (f ∷ flight) n law = first_ordered f line flight law f.looks_left n refl

  pub step_ordered : (depth : ℕ) (r : RunState) → Consistent m.carriers m.jobs m.ceiling r.tally → Ordered m r → Ordered m (one_step m depth r)
  unfolding one_step
  step_ordered depth r con law = step_by_ordered r.tally con (ltb (length r.flight) depth) r.line r.flight r.steps law

-- ---- the state that a run begins with

waiting_here : (i : ℕ) (s : Standing) → times_in (λ z. z) i (if_waiting i s) ≡ one (is_waiting s)
waiting_here i Waiting = times_first (λ z. z) i []
waiting_here i _ = refl

waiting_there : (k i : ℕ) (s : Standing) → (k ≡ i → ⊥) → times_in (λ z. z) k (if_waiting i s) ≡ 0
waiting_there k i Waiting n = times_later (λ z. z) k i [] n
waiting_there k i _ n = refl

module _ (m : Meaning) (lanes : ℕ) where
  bidding_here : (i : ℕ) (s : Standing) → times_in {X = InFlight} (λ f. f.carrier) i (if_bidding m lanes i s) ≡ one (is_bidding s)
  bidding_here i (Bidding b) = times_first {X = InFlight} (λ f. f.carrier) (in_flight i (looks_for lanes (length (row_of m i) - b.looked))) []
  bidding_here i _ = refl

  bidding_there : (k i : ℕ) (s : Standing) → (k ≡ i → ⊥) → times_in {X = InFlight} (λ f. f.carrier) k (if_bidding m lanes i s) ≡ 0
  bidding_there k i (Bidding b) n = times_later {X = InFlight} (λ f. f.carrier) k (in_flight i (looks_for lanes (length (row_of m i) - b.looked))) [] n
  bidding_there k i _ n = refl

  module _ (all : List Standing) where
    next : (i : ℕ) (s : Standing) (ss : List Standing) → ((k : ℕ) → get_or all (i + k) Out ≡ get_or (s ∷ ss) k Out) → (k : ℕ) → get_or all (suc i + k) Out ≡ get_or ss k Out
    next i s ss h k = ap (λ z. get_or all z Out) (omega arith) ∙ h (suc k)

    flight_due : (i : ℕ) (ss : List Standing) → ((k : ℕ) → get_or all (i + k) Out ≡ get_or ss k Out) → AllByRecursion (Due m lanes all) (gathered (if_bidding m lanes) i ss)
    flight_due i [] h = tt
    flight_due i (Bidding b ∷ ss) h =
        ((b, ap (λ z. get_or all z Out) (omega arith) ∙ h 0, refl), flight_due (suc i) ss (next i (Bidding b) ss h))
    flight_due i (s ∷ ss) h = flight_due (suc i) ss (next i s ss h)

pub begins_ordered : (m : Meaning) (t : Tally) → Ordered m (beginning m t)
unfolding beginning
begins_ordered m t = record {
  waits = λ k. ap (λ n. times_in (λ z. z) n (gathered if_waiting 0 t.standings)) (omega arith)
      ∙ gathered_at if_waiting (λ z. z) is_waiting refl waiting_here waiting_there 0 t.standings k;
  bids = λ k. ap (λ n. times_in {X = InFlight} (λ f. f.carrier) n (gathered (if_bidding m t.lanes) 0 t.standings)) (omega arith)
      ∙ gathered_at (if_bidding m t.lanes) (λ f. f.carrier) is_bidding refl (bidding_here m t.lanes) (bidding_there m t.lanes) 0 t.standings k;
  due = flight_due m t.lanes t.standings 0 t.standings (λ k. ap (λ z. get_or t.standings z Out) (omega arith));
}

pub line_lowest : (m : Meaning) (t : Tally) (i : ℕ) → is_waiting (standing_at t i) ≡ true → Lowest (λ z. z) i (beginning m t).line
unfolding beginning
line_lowest m t i e =
    subst (λ z. Lowest (λ y. y) z (gathered if_waiting 0 t.standings)) (omega arith) (gathered_lowest if_waiting (λ z. z) is_waiting refl waiting_here waiting_there 0 i t.standings e)

pub flight_lowest : (m : Meaning) (t : Tally) (i : ℕ) → is_bidding (standing_at t i) ≡ true → Lowest {X = InFlight} (λ f. f.carrier) i (beginning m t).flight
unfolding beginning
flight_lowest m t i e =
    subst (λ z. Lowest {X = InFlight} (λ f. f.carrier) z (gathered (if_bidding m t.lanes) 0 t.standings)) (omega arith)
    (gathered_lowest (if_bidding m t.lanes) (λ f. f.carrier) is_bidding refl (bidding_here m t.lanes) (bidding_there m t.lanes) 0 i t.standings e)

-- ---- what follows from the order

module _ (m : Meaning) where
  pub line_length : (r : RunState) → Ordered m r → length r.line ≡ count_by is_waiting r.tally.standings
  line_length r law = times_count is_waiting refl (λ z. z) r.line r.tally.standings law.waits

  pub flight_length : (r : RunState) → Ordered m r → length r.flight ≡ count_by is_bidding r.tally.standings
  flight_length r law = times_count is_bidding refl (λ f. f.carrier) r.flight r.tally.standings law.bids

  -- Done exactly if line and flight are empty.
  pub ending_is : (r : RunState) → Ordered m r → ending_of r.tally ≡ cond (eqb (length r.line + length r.flight) 0) Done Spent
  ending_is r law =
      ap (λ n. cond (eqb n 0) Done Spent) (ap (λ n. n + count_by is_bidding r.tally.standings) (sym (line_length r law)) ∙ ap (λ n. length r.line + n) (sym (flight_length r law)))

  -- Line and flight together are no more than the carriers.
  pub room_enough : (r : RunState) → Ordered m r → length r.line + length r.flight ≤ length r.tally.standings
  room_enough r law = omega (arith, line_length r law, flight_length r law, apart r.tally.standings)
    where
      either : (s : Standing) → one (is_waiting s) + one (is_bidding s) ≤ 1
      either Waiting = omega arith
      either _ = omega arith

      apart : (ss : List Standing) → count_by is_waiting ss + count_by is_bidding ss ≤ length ss
      apart [] = omega arith
      apart (s ∷ ss) = omega (arith, apart ss, either s, sum_by-cons (λ x. one (is_waiting x)) s ss, sum_by-cons (λ x. one (is_bidding x)) s ss)

  -- ---- with nobody in line or flight, a step changes nothing

  idle_step : (depth : ℕ) (t : Tally) (n : ℕ) → one_step m depth (record { line = []; flight = []; tally = t; steps = n }) ≡ record { line = []; flight = []; tally = t; steps = n }
  unfolding one_step
  idle_step depth t n = either (ltb 0 depth)
    where
      either : (b : Bool) → step_by m b [] [] t n ≡ record { line = []; flight = []; tally = t; steps = n }
      either true = refl
      either false = refl

  idle_from : (depth budget : ℕ) (t : Tally) (n : ℕ) →
      many_steps m depth budget (record { line = []; flight = []; tally = t; steps = n }) ≡ record { line = []; flight = []; tally = t; steps = n }
  unfolding many_steps
  idle_from depth zero t n = refl
  idle_from depth (suc budget) t n = ap (many_steps m depth budget) (idle_step depth t n) ∙ idle_from depth budget t n

  pub idle_steps : (depth budget : ℕ) (line : List ℕ) (flight : List InFlight) (t : Tally) (n : ℕ) → length line + length flight ≤ 0 →
      many_steps m depth budget (record { line = line; flight = flight; tally = t; steps = n }) ≡ record { line = line; flight = flight; tally = t; steps = n }
  idle_steps depth budget [] [] t n l = idle_from depth budget t n
  idle_steps depth budget [] (f ∷ flight) t n l = absurd (omega (arith, l))
  idle_steps depth budget (i ∷ line) flight t n l = absurd (omega (arith, l))

  -- ---- spent only if every step of the budget was made

  first_steps : (i left : ℕ) (line : List ℕ) (flight : List InFlight) (t : Tally) (n : ℕ) → (first_acts m i left line flight t n).steps ≡ n + 1
  first_steps i zero line flight t n = refl
  first_steps i (suc left) line flight t n = refl

  step_by_steps : (line : List ℕ) (flight : List InFlight) (t : Tally) (n depth : ℕ) → 1 ≤ depth → 0 < length line + length flight → (step_by m (ltb (length flight) depth) line flight t n).steps ≡ n + 1
  step_by_steps [] [] t n depth d b = absurd (omega arith)
  step_by_steps [] (f ∷ flight) t n depth d b = either (ltb (suc (length flight)) depth)
    where
      either : (s : Bool) → (step_by m s [] (f ∷ flight) t n).steps ≡ n + 1
      either true = first_steps f.carrier f.looks_left [] flight t n
      either false = first_steps f.carrier f.looks_left [] flight t n
  step_by_steps (i ∷ line) [] t n depth d b = ap (λ s. (step_by m s (i ∷ line) [] t n).steps) (lt-ltb 0 depth d)
  step_by_steps (i ∷ line) (f ∷ flight) t n depth d b = either (ltb (suc (length flight)) depth)
    where
      either : (s : Bool) → (step_by m s (i ∷ line) (f ∷ flight) t n).steps ≡ n + 1
      either true = refl
      either false = first_steps f.carrier f.looks_left (i ∷ line) flight t n

  step_counted : (depth : ℕ) (r : RunState) → 1 ≤ depth → 0 < length r.line + length r.flight → (one_step m depth r).steps ≡ r.steps + 1
  unfolding one_step
  step_counted depth r d b = step_by_steps r.line r.flight r.tally r.steps depth d b

  idle_done : (r : RunState) → Ordered m r → length r.line + length r.flight ≤ 0 → ending_of r.tally ≡ Done
  idle_done r law l =
      ending_is r law ∙ cond-true {A = Ending} (eqb (length r.line + length r.flight) 0) Done Spent (eq-eqb (length r.line + length r.flight) 0 (omega (arith, l)))

  pub step_consistent : Sound m → (depth : ℕ) (r : RunState) → Consistent m.carriers m.jobs m.ceiling r.tally → Consistent m.carriers m.jobs m.ceiling (one_step m depth r).tally
  step_consistent sound = step_holds m (Consistent m.carriers m.jobs m.ceiling) (λ t i act c. call_consistent m sound t c i act) (λ t i c. settle_consistent m t c i)

  module _ (sound : Sound m) (depth : ℕ) (deep : 1 ≤ depth) where
    all_or_done : (n : ℕ) (r : RunState) → Consistent m.carriers m.jobs m.ceiling r.tally → Ordered m r →
        ((many_steps m depth n r).steps ≡ r.steps + n) ⊎ (ending_of (many_steps m depth n r).tally ≡ Done)
    unfolding many_steps
    all_or_done zero r con law = inl (omega arith)
    all_or_done (suc n) r con law =
        ⊎_elim
        (λ busy. let s = step_counted depth r deep busy in
        ⊎_elim (λ e. inl (omega (arith, e, s))) inr
        (all_or_done n (one_step m depth r) (step_consistent sound depth r con) (step_ordered m depth r con law)))
        (λ idle. inr (ap (λ q. ending_of q.tally) (idle_steps depth (suc n) r.line r.flight r.tally r.steps idle) ∙ idle_done r law idle))
        (cases_lt 0 (length r.line + length r.flight))

    not_done : (e : Ending) → e ≡ Spent → e ≡ Done → ⊥
    not_done e p q = false≢true cc

    pub run_reports : (budget : ℕ) (r : RunState) → r.steps ≡ 0 → Consistent m.carriers m.jobs m.ceiling r.tally → Ordered m r →
        let q = many_steps m depth budget r in Reports budget r.tally q.tally (run_report r.tally q)
    run_reports budget r z con law =
        let g = steps_grow m depth budget r in
        let c = steps_cover m depth budget r in record {
          done = refl;
          spent = λ e. ⊎_elim (λ s. omega (arith, s, z)) (λ f. absurd (not_done (ending_of (many_steps m depth budget r).tally) e f)) (all_or_done budget r con law);
          within = omega (arith, c.1, z);
          covered = omega (arith, c.0, z, g.summonses_grow, g.awards_grow, g.stales_grow, g.outs_grow);
          summonses_made = omega (arith, g.summonses_grow);
          awards_made = omega (arith, g.awards_grow);
          stales_made = omega (arith, g.stales_grow);
          outs_made = omega (arith, g.outs_grow);
        }
