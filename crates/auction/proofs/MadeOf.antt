-- A run is made of as many accepted summonses, looks and settles as it makes steps; the depth keeps them narrow, and the line in turn.
use Rattle.std.proofs.Common.{◌≡◌, ℕ, zero, suc, ◌<◌, ◌≤◌, max, Bool, true, false, ltb, ◌≢◌, List, [], ◌∷◌, ◌++◌, length, Some, Ok, Err, Result, sym, refl, ap, ◌∙◌, subst, ⊎_elim, arith}
use Rattle.std.specs.Prelude.{◌↔◌}
use Rattle.std.proofs.lemmas.Bool.{cases_Bool, cond-true, cond-false, false≢true, ltb-true, ltb-false}
use mathlib.Core.Logic.{∥∥₁_elim}
use Rattle.sources.specs.Meaning.{Meaning, Sound}
use Rattle.refusals.specs.declared.Refusal.{Refusal}
use Rattle.refusals.specs.declared.Refusal.TheVariants.{DepthOutside}
use Rattle.auction.specs.declared.bidding.Act.{Act}
use Rattle.auction.specs.declared.bidding.Act.TheVariants.{Summon, Look}
use Rattle.auction.specs.declared.bidding.Report.{Report}
use Rattle.auction.specs.declared.bidding.InFlight.{InFlight}
use Rattle.auction.specs.Standings.{is_bidding}
use Rattle.auction.specs.Tally.{Tally, standing_at}
use Rattle.auction.specs.Rules.{between}
use Rattle.auction.specs.Consistent.{Consistent}
use Rattle.auction.specs.Runs.{RunState, beginning, one_step, many_steps, run_report, run_answer, run_tally, ran}
use Rattle.auction.specs.InOrder.{Ordered}
use Rattle.auction.specs.Laws.{waiting, bidding}
use Rattle.auction.specs.MadeOf.{Midway, is_ready, Acted, InRounds, MadeOf, RunsMade}
use Rattle.auction.specs.Reached.{Reached}
use Rattle.auction.proofs.Invariant.{Invariant}
use Rattle.auction.proofs.Props.{invariant_prop}
use Rattle.auction.proofs.Steps.{begins_ordered, step_consistent, step_ordered, line_length, flight_length}
use Rattle.auction.proofs.CallsKeep.{invariant_after}
use Rattle.auction.proofs.Acts.{first_act, act_by, acts_made, Point, Next, all_led, at_point, at_next}
use Rattle.auction.proofs.InTurn.{ready_before, ready_ascending, looks_round}
use Rattle.auction.proofs.InRounds.{step_short, none_open, Alone, all_stales, in_rounds}

not_summon : (left : ℕ) → first_act left ≢ Summon
not_summon zero e = false≢true cc
not_summon (suc left) e = false≢true cc

-- The next act is a summons exactly if somebody is in line and the flight is short.
fills_by : (depth : ℕ) (short : Bool) (line : List ℕ) (flight : List InFlight) → ltb (length flight) depth ≡ short → (x : Act × ℕ) → act_by short line flight ≡ Some x →
    (x.0 ≡ Summon) ↔ ((0 < length line) × (length flight < depth))
fills_by depth true [] [] q x e = absurd (false≢true cc)
fills_by depth true [] (f ∷ flight) q x e =
    let s : first_act f.looks_left ≡ x.0 = (let p : (first_act f.looks_left, f.carrier) ≡ x = cc in ap (λ (z : Act × ℕ). z.0) p) in
    (λ n. absurd (not_summon f.looks_left (s ∙ n)), λ w. absurd (omega (arith, w.0)))
fills_by depth true (i ∷ line) flight q x e =
    let p : (Summon, i) ≡ x = cc in
    (λ n. (omega arith, ltb-true (length flight) depth q), λ w. sym (ap (λ (z : Act × ℕ). z.0) p))
fills_by depth false line [] q x e = absurd (false≢true cc)
fills_by depth false line (f ∷ flight) q x e =
    let s : first_act f.looks_left ≡ x.0 = (let p : (first_act f.looks_left, f.carrier) ≡ x = cc in ap (λ (z : Act × ℕ). z.0) p) in
    (λ n. absurd (not_summon f.looks_left (s ∙ n)), λ w. let b = ltb-false (length (f ∷ flight)) depth q in absurd (omega (arith, b, w.1)))

module _ (m : Meaning) (sound : Sound m) (depth : ℕ) where
  -- A state of the run, with at most w in flight.
  record Within (w : ℕ) (r : RunState) : Type 0 where
    consistent : Consistent m.carriers m.jobs m.ceiling r.tally
    ordered : Ordered m r
    few : length r.flight ≤ w

  step_within : (w : ℕ) → depth ≤ w → (r : RunState) → Within w r → Within w (one_step m depth r)
  step_within w wide r h = record {
    consistent = step_consistent m sound depth r h.consistent;
    ordered = step_ordered m depth r h.consistent h.ordered;
    few = step_short m depth w wide r h.few;
  }

  module _ (budget : ℕ) (t : Tally) (inv : Invariant m t) where
    abbrev from : RunState
    from = beginning m t

    -- The most bids that may be open.
    abbrev most : ℕ
    most = max depth (bidding t)

    begins : Within most from
    unfolding beginning
    begins = record { consistent = inv.consistent; ordered = begins_ordered m t; few = omega (arith, flight_length m from (begins_ordered m t)) }

    abbrev made : List (Act × ℕ)
    made = acts_made m depth budget from

    point : (first rest : List (Act × ℕ)) (u : Tally) → Midway m t made first rest u → Point m depth (Within most) u rest
    unfolding beginning
    point first rest u w = at_point m depth (Within most) (step_within most (omega arith)) (λ r h. h.consistent) (λ r h. h.ordered) budget from begins first rest u w

    next : (first rest : List (Act × ℕ)) (x : Act × ℕ) (u : Tally) → Midway m t made first (x ∷ rest) u → Next m depth (Within most) u x rest
    unfolding beginning
    next first rest x u w = at_next m depth (Within most) (step_within most (omega arith)) (λ r h. h.consistent) (λ r h. h.ordered) budget from begins first rest x u w

    is_narrow : (first rest : List (Act × ℕ)) (u : Tally) → Midway m t made first rest u → bidding u ≤ most
    is_narrow first rest u w =
        let p = point first rest u w in subst (λ z. bidding z ≤ most) p.here (omega (arith, flight_length m p.state p.holds.ordered, p.holds.few))

    fills_up : (first rest : List (Act × ℕ)) (x : Act × ℕ) (u : Tally) → Midway m t made first (x ∷ rest) u → (x.0 ≡ Summon) ↔ ((0 < waiting u) × (bidding u < depth))
    fills_up first rest x u w =
        let p = next first rest x u w in
        subst (λ z. (x.0 ≡ Summon) ↔ ((0 < waiting z) × (bidding z < depth))) p.here
        (subst (λ n. (x.0 ≡ Summon) ↔ ((0 < n) × (bidding p.state.tally < depth))) (line_length m p.state p.holds.ordered)
        (subst (λ n. (x.0 ≡ Summon) ↔ ((0 < length p.state.line) × (n < depth))) (flight_length m p.state p.holds.ordered)
        (fills_by depth (ltb (length p.state.flight) depth) p.state.line p.state.flight refl x p.next)))

    goes_in_turn : (first mid rest : List (Act × ℕ)) (a : Act) (i k : ℕ) (u : Tally) → Midway m t made first (mid ++ (a, k) ∷ rest) u →
        is_ready a (standing_at u i) ≡ true → is_ready a (standing_at u k) ≡ false → Acted mid i
    goes_in_turn first mid rest a i k u w ready unready =
        let p = point first (mid ++ (a, k) ∷ rest) u w in
        ready_before m depth p.left i k mid rest p.state p.holds.ordered a (ap (λ z. is_ready a (standing_at z i)) p.here ∙ ready) (ap (λ z. is_ready a (standing_at z k)) p.here ∙ unready) p.on

    goes_round : (first mid rest : List (Act × ℕ)) (a : Act) (i k : ℕ) (u : Tally) → Midway m t made first ((Look, k) ∷ mid ++ (a, k) ∷ rest) u →
        a ≢ Summon → i ≢ k → is_bidding (standing_at u i) ≡ true → Acted mid i
    goes_round first mid rest a i k u w other apart bids =
        let p = next first (mid ++ (a, k) ∷ rest) (Look, k) u w in
        looks_round m depth p.left i k mid rest p.state p.holds.ordered apart (ap (λ z. is_bidding (standing_at z i)) p.here ∙ bids) p.next a other p.on

    goes_ascending : (first rest : List (Act × ℕ)) (a : Act) (i k : ℕ) → made ≡ first ++ (a, k) ∷ rest → i < k →
        is_ready a (standing_at t i) ≡ true → is_ready a (standing_at t k) ≡ true → Acted first i
    goes_ascending first rest a i k e l ready both = ready_ascending m depth budget i k first rest t a l ready e

  one_by_one : (budget : ℕ) (t : Tally) → Invariant m t → depth ≡ 1 → bidding t ≡ 0 →
      InRounds m t (acts_made m depth budget (beginning m t)) × ((run_report t (many_steps m depth budget (beginning m t))).counts.stales ≡ 0)
  unfolding beginning
  one_by_one budget t inv e idle =
      let none : length (beginning m t).flight ≤ 0 = omega (arith, flight_length m (beginning m t) (begins_ordered m t), idle) in
      let a : Alone m sound t.lanes (beginning m t) = record { same_lanes = refl; invariant = inv; ordered = begins_ordered m t; few = omega (arith, none); seen = none_open m sound (beginning m t) (begins_ordered m t) none } in
      subst (λ d. InRounds m t (acts_made m d budget (beginning m t)) × ((run_report t (many_steps m d budget (beginning m t))).counts.stales ≡ 0)) (sym e)
      (in_rounds m sound budget (beginning m t) a none, omega (arith, all_stales m sound t.lanes budget (beginning m t) a))

  pub run_made : (budget : ℕ) (t : Tally) → Invariant m t → let q = many_steps m depth budget (beginning m t) in MadeOf m depth t q.tally (run_report t q)
  unfolding beginning
  run_made budget t inv =
      let l = all_led m depth (Within (most budget t inv)) (step_within (most budget t inv) (omega arith)) (λ r h. h.consistent) (λ r h. h.ordered) budget (beginning m t) (begins budget t inv) in record {
        acts = acts_made m depth budget (beginning m t);
        counted = omega (arith, l.counted);
        accepted = l.accepted;
        led = l.led;
        narrow = is_narrow budget t inv;
        fills = fills_up budget t inv;
        in_turn = goes_in_turn budget t inv;
        round_robin = goes_round budget t inv;
        ascending = goes_ascending budget t inv;
        sequential = one_by_one budget t inv;
      }

module _ (m : Meaning) (sound : Sound m) where
  run_accepted : (depth budget : ℕ) (t u : Tally) (p : Report) → Invariant m t → run_answer depth budget m (Some t) ≡ Ok p → run_tally depth budget m (Some t) ≡ Some u → MadeOf m depth t u p
  unfolding ran
  run_accepted depth budget t u p inv told' to =
      ⊎_elim
      (λ e. let q = many_steps m depth budget (beginning m t) in
      let s : Ok (run_report t q) ≡ Ok p = sym (cond-true {A = Result Report Refusal} (between 1 128 depth) _ _ e) ∙ told' in
      let v : Some q.tally ≡ Some u = sym (ap Some (cond-true (between 1 128 depth) _ _ e)) ∙ to in
      let s' : run_report t q ≡ p = cc in
      let v' : q.tally ≡ u = cc in
      subst (λ z. MadeOf m depth t z p) v' (subst (MadeOf m depth t q.tally) s' (run_made m sound depth budget t inv)))
      (λ e. let s : Err DepthOutside ≡ Ok p = sym (cond-false {A = Result Report Refusal} (between 1 128 depth) _ _ e) ∙ told' in absurd (false≢true cc))
      (cases_Bool (between 1 128 depth))

  pub runs_made : RunsMade m
  runs_made calls depth budget t u p was = run_accepted depth budget t u p (invariant_after m sound calls t was)

  -- The same of a tally that calls lead to, which need not be told.
  pub reached_made : (depth budget : ℕ) (t u : Tally) (p : Report) → Reached m (Some t) → run_answer depth budget m (Some t) ≡ Ok p → run_tally depth budget m (Some t) ≡ Some u → MadeOf m depth t u p
  reached_made depth budget t u p h = run_accepted depth budget t u p (∥∥₁_elim h (invariant_prop m t) (λ c. invariant_after m sound c.0 t c.1))
