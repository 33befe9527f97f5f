-- The acts of a run, step by step: each is accepted, they lead to the tally after it, and each point of them is a state of the run.
use Rattle.std.proofs.Common.{◌≡◌, ℕ, zero, suc, ◌+◌, Bool, true, false, ltb, List, [], ◌∷◌, ◌++◌, length, is_ok, Some, None, Ok, Option, sym, refl, ap, ◌∙◌, subst, arith}
use Rattle.std.specs.Option.{option_to_list}
use Rattle.std.specs.List.{AllByRecursion}
use Rattle.sources.specs.Meaning.{Meaning}
use Rattle.auction.specs.declared.bidding.Act.{Act}
use Rattle.auction.specs.declared.bidding.Act.TheVariants.{Summon, Look, Settle}
use Rattle.auction.specs.declared.bidding.Bid.{Bid}
use Rattle.auction.specs.declared.bidding.InFlight.{InFlight}
use Rattle.auction.specs.declared.calls.Answer.TheVariants.{Settled}
use Rattle.auction.specs.Tally.{Tally}
use Rattle.auction.specs.Rules.{bid_at, success_of, verdict_from}
use Rattle.auction.specs.Consistent.{Consistent}
use Rattle.auction.specs.Runs.{RunState, first_acts, step_by, one_step, many_steps}
use Rattle.auction.specs.InOrder.{InOrder, Ordered}
use Rattle.auction.specs.Calls.{as_answer, accepted, answer_to, tally_by, tally_from, answers_from}
use Rattle.auction.specs.MadeOf.{act_call, calls_of, LeadsTo, Midway}
use Rattle.auction.proofs.Steps.{summon_taken, look_taken, settle_taken}

-- What the carrier first in flight does.
abbrev pub first_act : ℕ → Act
first_act zero = Settle
first_act (suc left) = Look

-- The act of a step, if it makes one.
abbrev pub act_by : Bool → List ℕ → List InFlight → Option (Act × ℕ)
act_by true [] [] = None
act_by true [] (f ∷ flight) = Some (first_act f.looks_left, f.carrier)
act_by true (i ∷ line) flight = Some (Summon, i)
act_by false line [] = None
act_by false line (f ∷ flight) = Some (first_act f.looks_left, f.carrier)

module _ (m : Meaning) where
  -- An act that `bid_at` accepts is accepted as a call.
  act_accepted : (act : Act) (i : ℕ) (t : Tally) (b : Bid) → bid_at m i act t ≡ Ok b → is_ok (answer_to m (Some t) (act_call act i)) ≡ true
  unfolding answer_to
  act_accepted Summon i t b e = ap (λ r. is_ok (as_answer accepted (success_of r))) e
  act_accepted Look i t b e = ap (λ r. is_ok (as_answer accepted (success_of r))) e
  act_accepted Settle i t b e = ap (λ r. is_ok (as_answer Settled (verdict_from t r))) e

  pub record Makes (t : Tally) (n : ℕ) (q : RunState) (x : Act × ℕ) : Type 0 where
    pub taken : is_ok (answer_to m (Some t) (act_call x.0 x.1)) ≡ true
    pub led : tally_by m (Some t) (act_call x.0 x.1) ≡ Some q.tally
    pub counted : q.steps ≡ n + 1

  -- Without an act, nothing changes.
  abbrev pub MakesIf : RunState → RunState → Option (Act × ℕ) → Type 0
  MakesIf r q None = q ≡ r
  MakesIf r q (Some x) = Makes r.tally r.steps q x

  module _ (t : Tally) (con : Consistent m.carriers m.jobs m.ceiling t) (n : ℕ) where
    first_makes : (f : InFlight) (line : List ℕ) (flight : List InFlight) → InOrder m t.lanes line (f ∷ flight) t.standings → (left : ℕ) → f.looks_left ≡ left →
        Makes t n (first_acts m f.carrier left line flight t n) (first_act left, f.carrier)
    unfolding tally_by
    first_makes f line flight law zero e = record { taken = act_accepted Settle f.carrier t _ (settle_taken m t con f line flight law e); led = refl; counted = refl }
    first_makes f line flight law (suc left) e = record { taken = act_accepted Look f.carrier t _ (look_taken m t con f line flight law left e); led = refl; counted = refl }

    step_by_makes : (short : Bool) (line : List ℕ) (flight : List InFlight) → InOrder m t.lanes line flight t.standings →
        MakesIf (record { line = line; flight = flight; tally = t; steps = n }) (step_by m short line flight t n) (act_by short line flight)
    unfolding tally_by
    step_by_makes true [] [] law = refl
    step_by_makes true [] (f ∷ flight) law = first_makes f [] flight law f.looks_left refl
    step_by_makes true (i ∷ line) flight law = record { taken = act_accepted Summon i t _ (summon_taken m t con i line flight law); led = refl; counted = refl }
    step_by_makes false line [] law = refl
    step_by_makes false line (f ∷ flight) law = first_makes f line flight law f.looks_left refl

  module _ (depth : ℕ) where
    abbrev pub act_of : RunState → Option (Act × ℕ)
    act_of r = act_by (ltb (length r.flight) depth) r.line r.flight

    pub step_makes : (r : RunState) → Consistent m.carriers m.jobs m.ceiling r.tally → Ordered m r → MakesIf r (one_step m depth r) (act_of r)
    unfolding one_step
    step_makes r con law = step_by_makes r.tally con r.steps (ltb (length r.flight) depth) r.line r.flight law

    -- The acts of the next n steps.
    abbrev pub acts_made : ℕ → RunState → List (Act × ℕ)
    acts_made zero r = []
    acts_made (suc n) r = option_to_list (act_of r) ++ acts_made n (one_step m depth r)

    module _ (R : RunState → Type 0) where
      -- The run is in this state where the tally is t and these acts are left.
      pub record Point (t : Tally) (rest : List (Act × ℕ)) : Type 0 where
        pub state : RunState
        pub left : ℕ
        pub holds : R state
        pub here : state.tally ≡ t
        pub on : acts_made left state ≡ rest

      -- The run is in this state where the tally is t, x is the next act, and these are left behind it.
      pub record Next (t : Tally) (x : Act × ℕ) (rest : List (Act × ℕ)) : Type 0 where
        pub state : RunState
        pub left : ℕ
        pub holds : R state
        pub here : state.tally ≡ t
        pub next : act_of state ≡ Some x
        pub on : acts_made left (one_step m depth state) ≡ rest

      -- Each state of the run is consistent and in order.
      module _ (keeps : (r : RunState) → R r → R (one_step m depth r))
          (consistent : (r : RunState) → R r → Consistent m.carriers m.jobs m.ceiling r.tally) (ordered : (r : RunState) → R r → Ordered m r) where
        makes : (r : RunState) → R r → MakesIf r (one_step m depth r) (act_of r)
        makes r h = step_makes r (consistent r h) (ordered r h)

        -- The acts lead from r to the last state, one for each step.
        pub record Led (r last : RunState) (acts : List (Act × ℕ)) : Type 0 where
          pub counted : last.steps ≡ r.steps + length acts
          pub accepted : AllByRecursion (λ a. is_ok a ≡ true) (answers_from m (Some r.tally) (calls_of acts))
          pub led : LeadsTo m r.tally acts last.tally

        led_on : (r q last : RunState) (acts : List (Act × ℕ)) (o : Option (Act × ℕ)) → MakesIf r q o → Led q last acts → Led r last (option_to_list o ++ acts)
        unfolding tally_from
        led_on r q last acts None same l = subst (λ z. Led z last acts) same l
        led_on r q last acts (Some x) made l = record {
          counted = omega (arith, made.counted, l.counted);
          accepted = (made.taken, subst (λ o. AllByRecursion (λ a. is_ok a ≡ true) (answers_from m o (calls_of acts))) (sym made.led) l.accepted);
          led = ap (λ o. tally_from m o (calls_of acts)) made.led ∙ l.led;
        }

        pub all_led : (n : ℕ) (r : RunState) → R r → Led r (many_steps m depth n r) (acts_made n r)
        unfolding many_steps tally_from
        all_led zero r h = record { counted = omega arith; accepted = tt; led = refl }
        all_led (suc n) r h =
            led_on r (one_step m depth r) (many_steps m depth n (one_step m depth r)) (acts_made n (one_step m depth r)) (act_of r) (makes r h) (all_led n (one_step m depth r) (keeps r h))

        abbrev Points : ℕ → Type 0
        Points n = (r : RunState) → R r → (first rest : List (Act × ℕ)) (t : Tally) → Midway m r.tally (acts_made n r) first rest t → Point t rest

        point_on : (n : ℕ) → Points n → (r : RunState) → R r → (a : Act × ℕ) (first rest : List (Act × ℕ)) (t : Tally) (o : Option (Act × ℕ)) → MakesIf r (one_step m depth r) o →
            option_to_list o ++ acts_made n (one_step m depth r) ≡ a ∷ (first ++ rest) → LeadsTo m r.tally (a ∷ first) t → Point t rest
        unfolding tally_from
        point_on n next r h a first rest t None same e l = next r h (a ∷ first) rest t (ap (acts_made n) (sym same) ∙ e, l)
        point_on n next r h a first rest t (Some x) made e l =
            let same : x ≡ a = cc in
            let on : acts_made n (one_step m depth r) ≡ first ++ rest = cc in
            next (one_step m depth r) (keeps r h) first rest t
            (on, ap (λ o. tally_from m o (calls_of first)) (sym made.led ∙ ap (λ y. tally_by m (Some r.tally) (act_call y.0 y.1)) same) ∙ l)

        pub at_point : (n : ℕ) → Points n
        unfolding tally_from
        at_point n r h [] rest t w = record { state = r; left = n; holds = h; here = (let s : Some r.tally ≡ Some t = w.1 in cc); on = w.0 }
        at_point zero r h (a ∷ first) rest t w = absurd (let s : length {A = Act × ℕ} [] ≡ length (a ∷ (first ++ rest)) = ap length w.0 in omega (arith, s))
        at_point (suc n) r h (a ∷ first) rest t w = point_on n (at_point n) r h a first rest t (act_of r) (makes r h) w.0 w.1

        abbrev Nexts : ℕ → Type 0
        Nexts n = (r : RunState) → R r → (t : Tally) → r.tally ≡ t → (x : Act × ℕ) (rest : List (Act × ℕ)) → acts_made n r ≡ x ∷ rest → Next t x rest

        -- A step without an act changes nothing.
        next_on : (n : ℕ) → Nexts n → (r : RunState) → R r → (t : Tally) → r.tally ≡ t → (x : Act × ℕ) (rest : List (Act × ℕ)) (o : Option (Act × ℕ)) → act_of r ≡ o →
            MakesIf r (one_step m depth r) o → option_to_list o ++ acts_made n (one_step m depth r) ≡ x ∷ rest → Next t x rest
        next_on n nexts r h t here x rest None is same e = nexts r h t here x rest (ap (acts_made n) (sym same) ∙ e)
        next_on n nexts r h t here x rest (Some y) is made e = record { state = r; left = n; holds = h; here = here; next = is ∙ ap Some (let same : y ≡ x = cc in same); on = cc }

        next_of : (n : ℕ) → Nexts n
        next_of zero r h t here x rest e = absurd (let s : length {A = Act × ℕ} [] ≡ length (x ∷ rest) = ap length e in omega (arith, s))
        next_of (suc n) r h t here x rest e = next_on n (next_of n) r h t here x rest (act_of r) refl (makes r h) e

        pub at_next : (n : ℕ) (r : RunState) → R r → (first rest : List (Act × ℕ)) (x : Act × ℕ) (t : Tally) → Midway m r.tally (acts_made n r) first (x ∷ rest) t → Next t x rest
        at_next n r h first rest x t w = let p = at_point n r h first (x ∷ rest) t w in next_of p.left p.state p.holds t p.here x rest p.on
