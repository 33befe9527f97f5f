-- A run at depth 1 that begins with no open bid goes in rounds: never more than one bid is open, so that all that it saw costs what it did when it was seen.
use Rattle.std.proofs.Common.{◌≡◌, ℕ, zero, suc, ◌+◌, ◌≤◌, Bool, true, false, ltb, List, [], ◌∷◌, ◌++◌, length, replicate, append-nil, length-append, Some, Ok, Err, Result, sym, refl, ap, ◌∙◌, subst, arith}
use Rattle.std.specs.Option.{option_to_list}
use Rattle.std.specs.Prelude.{flat_map}
use Rattle.std.proofs.lemmas.Bool.{ltb-true}
use Rattle.refusals.specs.declared.Refusal.{Refusal}
use Rattle.sources.specs.Meaning.{Meaning, Sound, row_of}
use Rattle.auction.specs.declared.bidding.Act.{Act}
use Rattle.auction.specs.declared.bidding.Act.TheVariants.{Summon, Look, Settle}
use Rattle.auction.specs.declared.bidding.Bid.{Bid}
use Rattle.auction.specs.declared.bidding.InFlight.{InFlight}
use Rattle.auction.specs.declared.bidding.Verdict.{Verdict}
use Rattle.auction.specs.declared.bidding.Verdict.TheVariants.{Out as GoesOut, Stale, Awarded}
use Rattle.auction.specs.Standings.{is_bidding, in_flight, looks_for}
use Rattle.auction.specs.Tally.{Tally, standing_at}
use Rattle.auction.specs.Bids.{best_worth}
use Rattle.auction.specs.Rules.{bid_at, if_accepted, counted, bids, called, carried_out, verdict_in, verdict_from, settle_answer, ended, settled}
use Rattle.auction.specs.Runs.{RunState, first_acts, step_by, one_step, many_steps}
use Rattle.auction.specs.InOrder.{times_in, Ordered}
use Rattle.auction.specs.MadeOf.{round, Midway, InRounds}
use Rattle.auction.specs.Sequential.{Sequential}
use Rattle.auction.proofs.Counted.{one}
use Rattle.auction.proofs.Invariant.{Invariant}
use Rattle.auction.proofs.InvariantKept.{call_keeps, settle_keeps}
use Rattle.auction.proofs.Sequential.{counted_awards, SeenAt, idle_seen, call_steady, settles}
use Rattle.auction.proofs.Steps.{step_holds, step_ordered}
use Rattle.auction.proofs.Acts.{first_act, act_by, act_of, acts_made, at_point}

-- ---- the flight grows by summonses alone, and then no further than the depth

module _ (m : Meaning) (depth w : ℕ) (wide : depth ≤ w) where
  first_short : (i left : ℕ) (line : List ℕ) (flight : List InFlight) (t : Tally) (n : ℕ) → length flight + 1 ≤ w → length (first_acts m i left line flight t n).flight ≤ w
  first_short i zero line flight t n l = omega (arith, l)
  first_short i (suc left) line flight t n l = omega (arith, l, length-append flight (in_flight i left ∷ []))

  step_by_short : (short : Bool) (line : List ℕ) (flight : List InFlight) (t : Tally) (n : ℕ) → ltb (length flight) depth ≡ short → length flight ≤ w → length (step_by m short line flight t n).flight ≤ w
  step_by_short true [] [] t n q l = l
  step_by_short true [] (f ∷ flight) t n q l = first_short f.carrier f.looks_left [] flight t n (omega (arith, l))
  step_by_short true (i ∷ line) flight t n q l =
      let b = ltb-true (length flight) depth q in omega (arith, b, length-append flight (in_flight i (looks_for t.lanes (length (row_of m i))) ∷ []))
  step_by_short false line [] t n q l = l
  step_by_short false line (f ∷ flight) t n q l = first_short f.carrier f.looks_left line flight t n (omega (arith, l))

  pub step_short : (r : RunState) → length r.flight ≤ w → length (one_step m depth r).flight ≤ w
  unfolding one_step
  step_short r l = step_by_short (ltb (length r.flight) depth) r.line r.flight r.tally r.steps refl l

-- ---- what no call changes

call_lanes : (m : Meaning) (t : Tally) (i : ℕ) (act : Act) → (called m i act t).lanes ≡ t.lanes
call_lanes m t i act = go (bid_at m i act t)
  where
    go : (r : Result Bid Refusal) → (if_accepted r (bids act i) t).lanes ≡ t.lanes
    go (Ok b) = refl
    go (Err e) = refl

settle_lanes : (m : Meaning) (t : Tally) (i : ℕ) → (settled m i t).lanes ≡ t.lanes
settle_lanes m t i = go (bid_at m i Settle t)
  where
    out : (w : ℕ) (v : Verdict) → (carried_out i w v t).lanes ≡ t.lanes
    out w GoesOut = refl
    out w Stale = refl
    out w (Awarded a) = refl

    go : (r : Result Bid Refusal) → (if_accepted r (ended i) t).lanes ≡ t.lanes
    go (Ok b) = out (best_worth b.best) (verdict_in t b)
    go (Err e) = refl

-- ---- what each open bid has seen, it has seen at the prices now

module _ (m : Meaning) (sound : Sound m) where
  abbrev pub AllSeen : Tally → Type 0
  AllSeen t = (i : ℕ) → SeenAt m i t.prices (standing_at t i)

  call_awards : (t : Tally) (k : ℕ) (act : Act) → (called m k act t).counts.awards ≡ t.counts.awards
  call_awards t k act = go (bid_at m k act t)
    where
      go : (r : Result Bid Refusal) → (if_accepted r (bids act k) t).counts.awards ≡ t.counts.awards
      go (Ok b) = counted_awards act t.counts
      go (Err e) = refl

  call_seen : (t : Tally) → Invariant m t → AllSeen t → (k : ℕ) (act : Act) → AllSeen (called m k act t)
  call_seen t inv seen k act i =
      (call_steady m sound t.counts.awards i t inv (record { fewest = omega arith; seen = λ _. seen i }) k act).seen (call_awards t k act)

  -- With nobody in flight, no bid is open.
  pub none_open : (r : RunState) → Ordered m r → length r.flight ≤ 0 → AllSeen r.tally
  none_open r law l i = idle_seen m i r.tally.prices (standing_at r.tally i) (closed (is_bidding (standing_at r.tally i)) (let b = law.bids i in sym b ∙ nobody r.flight l))
    where
      nobody : (flight : List InFlight) → length flight ≤ 0 → times_in {X = InFlight} (λ f. f.carrier) i flight ≡ 0
      nobody [] l = refl
      nobody (f ∷ flight) l = absurd (omega (arith, l))

      closed : (b : Bool) → one b ≡ 0 → b ≡ false
      closed true e = absurd (omega (arith, e))
      closed false e = refl

  module _ (t : Tally) (n : ℕ) (inv : Invariant m t) (seen : AllSeen t) where
    first_seen : (i left : ℕ) (line : List ℕ) (flight : List InFlight) → length flight ≤ 0 → Ordered m (first_acts m i left line flight t n) → AllSeen (first_acts m i left line flight t n).tally
    first_seen i zero line flight l law = none_open (first_acts m i zero line flight t n) law l
    first_seen i (suc left) line flight l law = call_seen t inv seen i Look

    step_by_seen : (short : Bool) (line : List ℕ) (flight : List InFlight) → length flight ≤ 1 → Ordered m (step_by m short line flight t n) → AllSeen (step_by m short line flight t n).tally
    step_by_seen true [] [] l law = seen
    step_by_seen true [] (f ∷ flight) l law = first_seen f.carrier f.looks_left [] flight (omega (arith, l)) law
    step_by_seen true (i ∷ line) flight l law = call_seen t inv seen i Summon
    step_by_seen false line [] l law = seen
    step_by_seen false line (f ∷ flight) l law = first_seen f.carrier f.looks_left line flight (omega (arith, l)) law

  step_seen : (r : RunState) → Invariant m r.tally → AllSeen r.tally → length r.flight ≤ 1 → Ordered m (one_step m 1 r) → AllSeen (one_step m 1 r).tally
  unfolding one_step
  step_seen r inv seen l law = step_by_seen r.tally r.steps inv seen (ltb (length r.flight) 1) r.line r.flight l law

  module _ (lanes : ℕ) where
    -- A state of such a run.
    pub record Alone (r : RunState) : Type 0 where
      pub same_lanes : r.tally.lanes ≡ lanes
      pub invariant : Invariant m r.tally
      pub ordered : Ordered m r
      pub few : length r.flight ≤ 1
      pub seen : AllSeen r.tally

    step_alone : (r : RunState) → Alone r → Alone (one_step m 1 r)
    step_alone r a =
        let law = step_ordered m 1 r a.invariant.consistent a.ordered in record {
          same_lanes = step_holds m (λ t. t.lanes ≡ lanes) (λ t i act e. call_lanes m t i act ∙ e) (λ t i e. settle_lanes m t i ∙ e) 1 r a.same_lanes;
          invariant = step_holds m (Invariant m) (λ t i act inv. call_keeps m sound t inv i act) (λ t i inv. settle_keeps m sound t inv i) 1 r a.invariant;
          ordered = law;
          few = step_short m 1 1 (omega arith) r a.few;
          seen = step_seen r a.invariant a.seen a.few law;
        }

    settles_so : (r : RunState) → Alone r → (i : ℕ) (v : Verdict) → settle_answer i m (Some r.tally) ≡ Ok v → Sequential r.tally (row_of m i) v
    settles_so r a i v e = settles m sound 0 i r.tally a.invariant (a.seen i) v e

    -- ---- the rounds

    -- What is left of a round.
    abbrev owing : ℕ → ℕ → List (Act × ℕ)
    owing left i = replicate left (Look, i) ++ (Settle, i) ∷ []

    abbrev owed : List InFlight → List (Act × ℕ)
    owed [] = []
    owed (f ∷ flight) = owing f.looks_left f.carrier

    pub record InTurns (first acts : List (Act × ℕ)) : Type 0 where
      pub carriers : List ℕ
      pub cut_off : List (Act × ℕ)
      pub rounds : acts ++ cut_off ≡ first ++ flat_map (round m lanes) carriers

    first_round : (i left : ℕ) (line : List ℕ) (flight : List InFlight) (t : Tally) (n : ℕ) (acts : List (Act × ℕ)) → length flight ≤ 0 →
        InTurns (owed (first_acts m i left line flight t n).flight) acts → InTurns (owing left i) ((first_act left, i) ∷ acts)
    first_round i zero line [] t n acts l h = record { carriers = h.carriers; cut_off = h.cut_off; rounds = ap (λ z. (Settle, i) ∷ z) h.rounds }
    first_round i (suc left) line [] t n acts l h = record { carriers = h.carriers; cut_off = h.cut_off; rounds = ap (λ z. (Look, i) ∷ z) h.rounds }
    first_round i left line (f ∷ flight) t n acts l h = absurd (omega (arith, l))

    step_by_round : (short : Bool) (line : List ℕ) (flight : List InFlight) (t : Tally) (n : ℕ) (acts : List (Act × ℕ)) → t.lanes ≡ lanes → ltb (length flight) 1 ≡ short → length flight ≤ 1 →
        InTurns (owed (step_by m short line flight t n).flight) acts → InTurns (owed flight) (option_to_list (act_by short line flight) ++ acts)
    step_by_round true [] [] t n acts same q l h = h
    step_by_round true [] (f ∷ flight) t n acts same q l h = first_round f.carrier f.looks_left [] flight t n acts (omega (arith, l)) h
    step_by_round true (i ∷ line) [] t n acts same q l h = record {
      carriers = i ∷ h.carriers;
      cut_off = h.cut_off;
      rounds = ap (λ z. (Summon, i) ∷ z) (h.rounds ∙ ap (λ k. owing (looks_for k (length (row_of m i))) i ++ flat_map (round m lanes) h.carriers) same);
    }
    step_by_round true (i ∷ line) (f ∷ flight) t n acts same q l h = absurd (let b = ltb-true (length (f ∷ flight)) 1 q in omega (arith, b))
    step_by_round false line [] t n acts same q l h = h
    step_by_round false line (f ∷ flight) t n acts same q l h = first_round f.carrier f.looks_left line flight t n acts (omega (arith, l)) h

    step_round : (r : RunState) (acts : List (Act × ℕ)) → Alone r → InTurns (owed (one_step m 1 r).flight) acts → InTurns (owed r.flight) (option_to_list (act_of m 1 r) ++ acts)
    unfolding one_step
    step_round r acts a h = step_by_round (ltb (length r.flight) 1) r.line r.flight r.tally r.steps acts a.same_lanes refl a.few h

    all_rounds : (n : ℕ) (r : RunState) → Alone r → InTurns (owed r.flight) (acts_made m 1 n r)
    all_rounds zero r a = record { carriers = []; cut_off = owed r.flight; rounds = sym (append-nil (owed r.flight)) }
    all_rounds (suc n) r a = step_round r (acts_made m 1 n (one_step m 1 r)) a (all_rounds n (one_step m 1 r) (step_alone r a))

    -- ---- no bid is stale

    call_stales : (t : Tally) (k : ℕ) (act : Act) → (called m k act t).counts.stales ≡ t.counts.stales
    call_stales t k act = go (bid_at m k act t)
      where
        counted_stales : (a : Act) → (counted a t.counts).stales ≡ t.counts.stales
        counted_stales Summon = refl
        counted_stales Look = refl
        counted_stales Settle = refl

        go : (r : Result Bid Refusal) → (if_accepted r (bids act k) t).counts.stales ≡ t.counts.stales
        go (Ok b) = counted_stales act
        go (Err e) = refl

    module _ (t : Tally) (n : ℕ) (so : (i : ℕ) (v : Verdict) → settle_answer i m (Some t) ≡ Ok v → Sequential t (row_of m i) v) where
      settle_stales : (i : ℕ) → (settled m i t).counts.stales ≡ t.counts.stales
      settle_stales i = go (bid_at m i Settle t) (so i)
        where
          out : (w : ℕ) (v : Verdict) → Sequential t (row_of m i) v → (carried_out i w v t).counts.stales ≡ t.counts.stales
          out w GoesOut s = refl
          out w Stale s = absurd s
          out w (Awarded a) s = refl

          go : (r : Result Bid Refusal) → ((v : Verdict) → verdict_from t r ≡ Ok v → Sequential t (row_of m i) v) → (if_accepted r (ended i) t).counts.stales ≡ t.counts.stales
          go (Ok b) s = out (best_worth b.best) (verdict_in t b) (s (verdict_in t b) refl)
          go (Err e) s = refl

      first_stales : (i left : ℕ) (line : List ℕ) (flight : List InFlight) → (first_acts m i left line flight t n).tally.counts.stales ≡ t.counts.stales
      first_stales i zero line flight = settle_stales i
      first_stales i (suc left) line flight = call_stales t i Look

      step_by_stales : (short : Bool) (line : List ℕ) (flight : List InFlight) → (step_by m short line flight t n).tally.counts.stales ≡ t.counts.stales
      step_by_stales true [] [] = refl
      step_by_stales true [] (f ∷ flight) = first_stales f.carrier f.looks_left [] flight
      step_by_stales true (i ∷ line) flight = call_stales t i Summon
      step_by_stales false line [] = refl
      step_by_stales false line (f ∷ flight) = first_stales f.carrier f.looks_left line flight

    step_stales : (r : RunState) → Alone r → (one_step m 1 r).tally.counts.stales ≡ r.tally.counts.stales
    unfolding one_step
    step_stales r a = step_by_stales r.tally r.steps (settles_so r a) (ltb (length r.flight) 1) r.line r.flight

    pub all_stales : (n : ℕ) (r : RunState) → Alone r → (many_steps m 1 n r).tally.counts.stales ≡ r.tally.counts.stales
    unfolding many_steps
    all_stales zero r a = refl
    all_stales (suc n) r a = all_stales n (one_step m 1 r) (step_alone r a) ∙ step_stales r a

    settles_at : (n : ℕ) (r : RunState) → Alone r → (first rest : List (Act × ℕ)) (i : ℕ) (t : Tally) (v : Verdict) → Midway m r.tally (acts_made m 1 n r) first rest t →
        settle_answer i m (Some t) ≡ Ok v → Sequential t (row_of m i) v
    settles_at n r a first rest i t v w =
        let p = at_point m 1 Alone step_alone (λ q h. h.invariant.consistent) (λ q h. h.ordered) n r a first rest t w in
        subst (λ z. settle_answer i m (Some z) ≡ Ok v → Sequential z (row_of m i) v) p.here (settles_so p.state p.holds i v)

  pub in_rounds : (n : ℕ) (r : RunState) → Alone r.tally.lanes r → length r.flight ≤ 0 → InRounds m r.tally (acts_made m 1 n r)
  in_rounds n r a l =
      let h = all_rounds r.tally.lanes n r a in record {
        carriers = h.carriers;
        cut_off = h.cut_off;
        rounds = h.rounds ∙ ap (λ z. z ++ flat_map (round m r.tally.lanes) h.carriers) (nothing r.flight l);
        settles = λ first rest i t v. settles_at r.tally.lanes n r a first ((Settle, i) ∷ rest) i t v;
      }
    where
      nothing : (flight : List InFlight) → length flight ≤ 0 → owed r.tally.lanes flight ≡ []
      nothing [] l = refl
      nothing (f ∷ flight) l = absurd (omega (arith, l))
