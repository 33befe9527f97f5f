-- Line and flight of a run are first in, first out: whoever stands in one of them acts before whoever does not stand in it yet, or stands behind.
use Rattle.std.proofs.Common.{◌≡◌, ℕ, zero, suc, ◌+◌, ◌<◌, Bool, true, false, eqb, ltb, ◌≢◌, List, [], ◌∷◌, ◌++◌, length, append-nil, Some, None, Option, sym, refl, ap, ◌∙◌, subst, arith}
use Rattle.std.specs.Option.{option_to_list}
use Rattle.std.proofs.lemmas.Bool.{both_ways}
use Rattle.std.proofs.lemmas.List.{append_assoc}
use Rattle.std.proofs.lemmas.List.Sums.{sum_by-cons}
use Rattle.sources.specs.Meaning.{Meaning, row_of}
use Rattle.auction.specs.declared.bidding.Act.{Act}
use Rattle.auction.specs.declared.bidding.Act.TheVariants.{Summon, Look, Settle}
use Rattle.auction.specs.declared.bidding.InFlight.{InFlight}
use Rattle.auction.specs.declared.bidding.Standing.{Standing}
use Rattle.auction.specs.Standings.{is_waiting, is_bidding, in_flight, looks_for}
use Rattle.auction.specs.Tally.{Tally, standing_at}
use Rattle.auction.specs.Rules.{settle_answer}
use Rattle.auction.specs.Runs.{RunState, joins_line, beginning, first_acts, step_by, one_step}
use Rattle.auction.specs.InOrder.{times_in, Ordered}
use Rattle.auction.specs.MadeOf.{is_ready, Acted}
use Rattle.auction.proofs.Counted.{one, one_most}
use Rattle.auction.proofs.Queues.{times_first, times_append, Place, place, Lowest}
use Rattle.auction.proofs.Steps.{line_lowest, flight_lowest}
use Rattle.auction.proofs.Acts.{first_act, act_by, act_of, acts_made}

later : (y : Act × ℕ) (acts : List (Act × ℕ)) (i : ℕ) → Acted acts i → Acted (y ∷ acts) i
later y acts i h = (suc h.0, omega (arith, h.1), h.2)

-- ---- a queue whose first is taken, or that others join behind

module _ {X : Type 0} (number : X → ℕ) where
  -- Its first has the number j, and is taken; whoever joins is behind.
  pub record Takes (j : ℕ) (xs xs' : List X) : Type 0 where
    pub head : X
    pub others : List X
    pub more : List X
    pub numbered : number head ≡ j
    pub was : xs ≡ head ∷ others
    pub is : xs' ≡ others ++ more

  abbrev pub Moves : Bool → ℕ → List X → List X → Type 0
  Moves true j xs xs' = Takes j xs xs'
  Moves false j xs xs' = (more : List X) × (xs' ≡ xs ++ more)

  module _ (takes : Act → Bool) where
    abbrev pub MovesIf : List X → List X → Option (Act × ℕ) → Type 0
    MovesIf xs xs' None = xs' ≡ xs
    MovesIf xs xs' (Some x) = Moves (takes x.0) x.1 xs xs'

    module _ (i k : ℕ) (apart : i ≢ k) where
      -- Carrier i stands in the queue, and carrier k not before it: i acts before k is taken.
      abbrev pub Passed : List X → List (Act × ℕ) → Type 0
      Passed xs acts = (front back : List X) (x : X) → xs ≡ front ++ x ∷ back → number x ≡ i → times_in number k front ≡ 0 →
          (mid rest : List (Act × ℕ)) (a : Act) → takes a ≡ true → acts ≡ mid ++ (a, k) ∷ rest → Acted mid i

      taken_on : (b : Act) (j : ℕ) (y : X) (ys more : List X) (acts : List (Act × ℕ)) → number y ≡ j → Passed (ys ++ more) acts → Passed (y ∷ ys) ((b, j) ∷ acts)
      taken_on b j y ys more acts n h [] back x here at none [] rest a q e =
          let p : ◌≡◌ {A = Act × ℕ} (b, j) (a, k) = cc in let s : y ≡ x = cc in absurd (apart (sym at ∙ ap number (sym s) ∙ n ∙ ap (λ (z : Act × ℕ). z.1) p))
      taken_on b j y ys more acts n h (f ∷ front) back x here at none [] rest a q e =
          let p : ◌≡◌ {A = Act × ℕ} (b, j) (a, k) = cc in let s : y ≡ f = cc in
          let d : number f ≡ k = ap number (sym s) ∙ n ∙ ap (λ (z : Act × ℕ). z.1) p in
          let w : times_in number (number f) (f ∷ front) ≡ 0 = ap (λ z. times_in number z (f ∷ front)) d ∙ none in
          absurd (omega (arith, times_first number f front, w))
      taken_on b j y ys more acts n h [] back x here at none (z ∷ mid) rest a q e =
          let p : z ≡ (b, j) = cc in let s : y ≡ x = cc in (0, omega arith, (let d : z.1 ≡ i = ap (λ (w : Act × ℕ). w.1) p ∙ sym n ∙ ap number s ∙ at in d))
      taken_on b j y ys more acts n h (f ∷ front) back x here at none (z ∷ mid) rest a q e =
          later z mid i (h front (back ++ more) x (let s : ys ≡ front ++ x ∷ back = cc in ap (λ l. l ++ more) s ∙ append_assoc front (x ∷ back) more) at
          (let c = sum_by-cons (λ l. one (eqb (number l) k)) f front in omega (arith, none, c)) mid rest a q (let s : acts ≡ mid ++ (a, k) ∷ rest = cc in s))

      joined_on : (b : Act) (j : ℕ) → takes b ≡ false → (xs more : List X) (acts : List (Act × ℕ)) → Passed (xs ++ more) acts → Passed xs ((b, j) ∷ acts)
      joined_on b j n xs more acts h front back x here at none [] rest a q e =
          let p : ◌≡◌ {A = Act × ℕ} (b, j) (a, k) = cc in absurd (both_ways (takes b) n (ap takes (ap (λ (z : Act × ℕ). z.0) p) ∙ q))
      joined_on b j n xs more acts h front back x here at none (z ∷ mid) rest a q e =
          later z mid i (h front (back ++ more) x (ap (λ l. l ++ more) here ∙ append_assoc front (x ∷ back) more) at none mid rest a q (let s : acts ≡ mid ++ (a, k) ∷ rest = cc in s))

      passed_on : (s : Bool) (b : Act) (j : ℕ) → takes b ≡ s → (xs xs' : List X) (acts : List (Act × ℕ)) → Moves s j xs xs' → Passed xs' acts → Passed xs ((b, j) ∷ acts)
      passed_on true b j q xs xs' acts t h = subst (λ z. Passed z ((b, j) ∷ acts)) (sym t.was) (taken_on b j t.head t.others t.more acts t.numbered (subst (λ z. Passed z acts) t.is h))
      passed_on false b j q xs xs' acts moved h = joined_on b j q xs moved.0 acts (subst (λ z. Passed z acts) moved.1 h)

      passed_if : (o : Option (Act × ℕ)) (xs xs' : List X) (acts : List (Act × ℕ)) → MovesIf xs xs' o → Passed xs' acts → Passed xs (option_to_list o ++ acts)
      passed_if None xs xs' acts same h = subst (λ z. Passed z acts) same h
      passed_if (Some x) xs xs' acts moved h = passed_on (takes x.0) x.0 x.1 refl xs xs' acts moved h

      nothing_left : (xs : List X) → Passed xs []
      nothing_left xs front back x here at none mid rest a q e = absurd (empty mid e)
        where
          empty : (mid : List (Act × ℕ)) → [] ≡ mid ++ (a, k) ∷ rest → ⊥
          empty [] e = let s : length {A = Act × ℕ} [] ≡ length ((a, k) ∷ rest) = ap length e in omega (arith, s)
          empty (z ∷ mid) e = let s : length {A = Act × ℕ} [] ≡ length (z ∷ (mid ++ (a, k) ∷ rest)) = ap length e in omega (arith, s)

-- Such a queue of a run, in which those stand whose standing passes a test.
pub record Queue (m : Meaning) (depth : ℕ) (X : Type 0) : Type 0 where
  pub number : X → ℕ
  pub takes : Act → Bool
  pub queue : RunState → List X
  pub test : Standing → Bool
  pub moves : (r : RunState) → MovesIf number takes (queue r) (queue (one_step m depth r)) (act_of m depth r)
  pub each : (r : RunState) → Ordered m r → (k : ℕ) → times_in number k (queue r) ≡ one (test (standing_at r.tally k))

module _ {m : Meaning} {depth : ℕ} {X : Type 0} (q : Queue m depth X) where
  abbrev Before : ℕ → ℕ → List (Act × ℕ) → Type 0
  Before i k acts = (mid rest : List (Act × ℕ)) (a : Act) → q.takes a ≡ true → acts ≡ mid ++ (a, k) ∷ rest → Acted mid i

  passed : (i k : ℕ) (apart : i ≢ k) (n : ℕ) (r : RunState) → Passed q.number q.takes i k apart (q.queue r) (acts_made m depth n r)
  passed i k apart zero r = nothing_left q.number q.takes i k apart (q.queue r)
  passed i k apart (suc n) r =
      passed_if q.number q.takes i k apart (act_of m depth r) (q.queue r) (q.queue (one_step m depth r)) (acts_made m depth n (one_step m depth r)) (q.moves r)
      (passed i k apart n (one_step m depth r))

  stands : (r : RunState) → Ordered m r → (i : ℕ) → q.test (standing_at r.tally i) ≡ true → Place q.number i (q.queue r)
  stands r law i e = place q.number i (q.queue r) (omega (arith, (let c : times_in q.number i (q.queue r) ≡ 1 = q.each r law i ∙ ap one e in c)))

  -- Who stands in it is taken before who does not.
  pub acts_before : (n : ℕ) (r : RunState) → Ordered m r → (i k : ℕ) → q.test (standing_at r.tally i) ≡ true → q.test (standing_at r.tally k) ≡ false → Before i k (acts_made m depth n r)
  acts_before n r law i k inside outside =
      let w = stands r law i inside in
      let none : times_in q.number k (q.queue r) ≡ 0 = q.each r law k ∙ ap one outside in
      let b : times_in q.number k (q.queue r) ≡ times_in q.number k w.front + times_in q.number k (w.it ∷ w.back) =
      ap (times_in q.number k) w.is ∙ times_append q.number k w.front (w.it ∷ w.back) in
      passed i k (λ same. both_ways (q.test (standing_at r.tally k)) outside (ap (λ z. q.test (standing_at r.tally z)) (sym same) ∙ inside)) n r w.front w.back w.it w.is w.numbered (omega (arith, none, b))

  -- At first those with smaller numbers are taken before others.
  pub acts_ascending : (n : ℕ) (r : RunState) (i k : ℕ) → i < k → Lowest q.number i (q.queue r) → Before i k (acts_made m depth n r)
  acts_ascending n r i k l w = passed i k (λ same. omega (arith, l, same)) n r w.at.front w.at.back w.at.it w.at.is w.at.numbered (w.low k l)

  module _ (i k : ℕ) (apart : i ≢ k) (n : ℕ) (r : RunState) (law : Ordered m r) (inside : q.test (standing_at r.tally i) ≡ true) where
    -- Who is taken, and joins again, is behind the others.
    turned : Takes q.number k (q.queue r) (q.queue (one_step m depth r)) → Before i k (acts_made m depth n (one_step m depth r))
    turned t = let w = stands r law i inside in go w.front w.back w.it w.numbered (sym t.was ∙ w.is)
      where
        none : times_in q.number k t.others ≡ 0
        none =
            let a : times_in q.number k (q.queue r) ≡ times_in q.number k (t.head ∷ t.others) = ap (times_in q.number k) t.was in
            let b = subst (λ z. times_in q.number z (t.head ∷ t.others) ≡ 1 + times_in q.number z t.others) t.numbered (times_first q.number t.head t.others) in
            omega (arith, a, b, q.each r law k, one_most (q.test (standing_at r.tally k)))

        go : (front back : List X) (x : X) → q.number x ≡ i → t.head ∷ t.others ≡ front ++ x ∷ back → Before i k (acts_made m depth n (one_step m depth r))
        go [] back x at e = let s : t.head ≡ x = cc in absurd (apart (sym at ∙ ap q.number (sym s) ∙ t.numbered))
        go (f ∷ front) back x at e =
            let s : t.others ≡ front ++ x ∷ back = cc in
            let b : times_in q.number k t.others ≡ times_in q.number k front + times_in q.number k (x ∷ back) = ap (times_in q.number k) s ∙ times_append q.number k front (x ∷ back) in
            passed i k apart n (one_step m depth r) front (back ++ t.more) x (t.is ∙ ap (λ l. l ++ t.more) s ∙ append_assoc front (x ∷ back) t.more) at (omega (arith, none, b))

    pub acts_round : (b : Act) → act_of m depth r ≡ Some (b, k) → q.takes b ≡ true → Before i k (acts_made m depth n (one_step m depth r))
    acts_round b next e =
        turned (subst (λ s. Moves q.number s k (q.queue r) (q.queue (one_step m depth r))) e (subst (MovesIf q.number q.takes (q.queue r) (q.queue (one_step m depth r))) next (q.moves r)))

-- ---- the line, of which a summons takes the first

abbrev pub of_line : Act → Bool
of_line Summon = true
of_line Look = false
of_line Settle = false

-- ---- the flight, of which a look or a settle takes the first

abbrev pub of_flight : Act → Bool
of_flight Summon = false
of_flight Look = true
of_flight Settle = true

module _ (m : Meaning) where
  abbrev LineMoves : List ℕ → List ℕ → Option (Act × ℕ) → Type 0
  LineMoves = MovesIf (λ i. i) of_line

  abbrev FlightMoves : List InFlight → List InFlight → Option (Act × ℕ) → Type 0
  FlightMoves = MovesIf (λ f. f.carrier) of_flight

  first_line : (i left : ℕ) (line : List ℕ) (flight : List InFlight) (t : Tally) (n : ℕ) → LineMoves line (first_acts m i left line flight t n).line (Some (first_act left, i))
  first_line i zero line flight t n = (joins_line i (settle_answer i m (Some t)), refl)
  first_line i (suc left) line flight t n = ([], sym (append-nil line))

  step_by_line : (short : Bool) (line : List ℕ) (flight : List InFlight) (t : Tally) (n : ℕ) → LineMoves line (step_by m short line flight t n).line (act_by short line flight)
  step_by_line true [] [] t n = refl
  step_by_line true [] (f ∷ flight) t n = first_line f.carrier f.looks_left [] flight t n
  step_by_line true (i ∷ line) flight t n = record { head = i; others = line; more = []; numbered = refl; was = refl; is = sym (append-nil line) }
  step_by_line false line [] t n = refl
  step_by_line false line (f ∷ flight) t n = first_line f.carrier f.looks_left line flight t n

  first_flight : (f : InFlight) (left : ℕ) (line : List ℕ) (flight : List InFlight) (t : Tally) (n : ℕ) →
      FlightMoves (f ∷ flight) (first_acts m f.carrier left line flight t n).flight (Some (first_act left, f.carrier))
  first_flight f zero line flight t n = record { head = f; others = flight; more = []; numbered = refl; was = refl; is = sym (append-nil flight) }
  first_flight f (suc left) line flight t n = record { head = f; others = flight; more = in_flight f.carrier left ∷ []; numbered = refl; was = refl; is = refl }

  step_by_flight : (short : Bool) (line : List ℕ) (flight : List InFlight) (t : Tally) (n : ℕ) → FlightMoves flight (step_by m short line flight t n).flight (act_by short line flight)
  step_by_flight true [] [] t n = refl
  step_by_flight true [] (f ∷ flight) t n = first_flight f f.looks_left [] flight t n
  step_by_flight true (i ∷ line) flight t n = (in_flight i (looks_for t.lanes (length (row_of m i))) ∷ [], refl)
  step_by_flight false line [] t n = refl
  step_by_flight false line (f ∷ flight) t n = first_flight f f.looks_left line flight t n

  module _ (depth : ℕ) where
    line_moves : (r : RunState) → LineMoves r.line (one_step m depth r).line (act_of m depth r)
    unfolding one_step
    line_moves r = step_by_line (ltb (length r.flight) depth) r.line r.flight r.tally r.steps

    flight_moves : (r : RunState) → FlightMoves r.flight (one_step m depth r).flight (act_of m depth r)
    unfolding one_step
    flight_moves r = step_by_flight (ltb (length r.flight) depth) r.line r.flight r.tally r.steps

    abbrev line : Queue m depth ℕ
    line = record { number = λ i. i; takes = of_line; queue = λ r. r.line; test = is_waiting; moves = line_moves; each = λ r law. law.waits }

    abbrev flight : Queue m depth InFlight
    flight = record { number = λ f. f.carrier; takes = of_flight; queue = λ r. r.flight; test = is_bidding; moves = flight_moves; each = λ r law. law.bids }

    -- ---- both

    module _ (n : ℕ) (i k : ℕ) (mid rest : List (Act × ℕ)) where
      pub ready_before : (r : RunState) → Ordered m r → (a : Act) → is_ready a (standing_at r.tally i) ≡ true → is_ready a (standing_at r.tally k) ≡ false →
          acts_made m depth n r ≡ mid ++ (a, k) ∷ rest → Acted mid i
      ready_before r law Summon ready unready = acts_before line n r law i k ready unready mid rest Summon refl
      ready_before r law Look ready unready = acts_before flight n r law i k ready unready mid rest Look refl
      ready_before r law Settle ready unready = acts_before flight n r law i k ready unready mid rest Settle refl

      pub ready_ascending : (t : Tally) (a : Act) → i < k → is_ready a (standing_at t i) ≡ true → acts_made m depth n (beginning m t) ≡ mid ++ (a, k) ∷ rest → Acted mid i
      ready_ascending t Summon l ready = acts_ascending line n (beginning m t) i k l (line_lowest m t i ready) mid rest Summon refl
      ready_ascending t Look l ready = acts_ascending flight n (beginning m t) i k l (flight_lowest m t i ready) mid rest Look refl
      ready_ascending t Settle l ready = acts_ascending flight n (beginning m t) i k l (flight_lowest m t i ready) mid rest Settle refl

      pub looks_round : (r : RunState) → Ordered m r → i ≢ k → is_bidding (standing_at r.tally i) ≡ true → act_of m depth r ≡ Some (Look, k) → (a : Act) → a ≢ Summon →
          acts_made m depth n (one_step m depth r) ≡ mid ++ (a, k) ∷ rest → Acted mid i
      looks_round r law apart bids next Summon n' = absurd (n' refl)
      looks_round r law apart bids next Look n' = acts_round flight i k apart n r law bids Look next refl mid rest Look refl
      looks_round r law apart bids next Settle n' = acts_round flight i k apart n r law bids Look next refl mid rest Settle refl
