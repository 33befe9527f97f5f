-- Line and flight while standings change.
use Rattle.std.proofs.Common.{◌≡◌, ℕ, zero, suc, ◌+◌, ◌-◌, ◌<◌, ◌≤◌, Bool, true, false, eqb, List, [], ◌∷◌, ◌++◌, length, get_or, set, count_by, sym, refl, ap, ◌∙◌, subst, ⊎_elim, arith}
use Rattle.std.specs.List.{AllByRecursion}
use Rattle.std.proofs.lemmas.Bool.{cases_lt, cases_eq, cases_Bool, both_ways, eq-eqb, ne_eqb}
use Rattle.std.proofs.lemmas.List.{get_or-set_same, get_or-set_other, get_or_past, append-nil, append_assoc, length-append}
use Rattle.std.proofs.lemmas.List.Sums.{sum_by-cons, sum_by-append}
use Rattle.std.proofs.ByRecursion.{All-append, All-weaker}
use Rattle.sources.specs.Meaning.{Meaning, row_of}
use Rattle.auction.specs.declared.bidding.Bid.{Bid}
use Rattle.auction.specs.declared.bidding.InFlight.{InFlight}
use Rattle.auction.specs.declared.bidding.Standing.{Standing}
use Rattle.auction.specs.declared.bidding.Standing.TheVariants.{Waiting, Bidding, Served, Out}
use Rattle.auction.specs.Standings.{is_waiting, is_bidding, is_served, in_flight, looks_for}
use Rattle.auction.specs.Runs.{gathered}
use Rattle.auction.specs.InOrder.{times_in, Due, InOrder}
use Rattle.auction.proofs.Counted.{one, one_most, count_set}

-- ---- how many elements have a number

module _ {X : Type 0} (number : X → ℕ) where
  pub times_first : (x : X) (xs : List X) → times_in number (number x) (x ∷ xs) ≡ 1 + times_in number (number x) xs
  times_first x xs =
      let e : one (eqb (number x) (number x)) ≡ 1 = ap one (eq-eqb (number x) (number x) refl) in
      omega (arith, e, sum_by-cons (λ y. one (eqb (number y) (number x))) x xs)

  pub times_later : (k : ℕ) (x : X) (xs : List X) → (k ≡ number x → ⊥) → times_in number k (x ∷ xs) ≡ times_in number k xs
  times_later k x xs n =
      let e : one (eqb (number x) k) ≡ 0 = ap one (ne_eqb (number x) k (λ e. n (sym e))) in
      omega (arith, e, sum_by-cons (λ y. one (eqb (number y) k)) x xs)

  pub times_append : (k : ℕ) (xs ys : List X) → times_in number k (xs ++ ys) ≡ times_in number k xs + times_in number k ys
  times_append k xs ys = sum_by-append (λ y. one (eqb (number y) k)) xs ys

  pub times_here : (x : X) (xs : List X) → times_in number (number x) (xs ++ x ∷ []) ≡ times_in number (number x) xs + 1
  times_here x xs = let a = times_append (number x) xs (x ∷ []) in let b = times_first x [] in omega (arith, a, b)

  pub times_there : (k : ℕ) (x : X) (xs : List X) → (k ≡ number x → ⊥) → times_in number k (xs ++ x ∷ []) ≡ times_in number k xs
  times_there k x xs n = let a = times_append k xs (x ∷ []) in let b = times_later k x [] n in omega (arith, a, b)

  -- Who is in a list has some before it and some behind it.
  pub record Place (i : ℕ) (xs : List X) : Type 0 where
    pub front : List X
    pub it : X
    pub back : List X
    pub is : xs ≡ front ++ it ∷ back
    pub numbered : number it ≡ i

  pub place : (i : ℕ) (xs : List X) → 1 ≤ times_in number i xs → Place i xs
  place i [] l = absurd (omega arith)
  place i (x ∷ xs) l = go (place i xs)
    where
      go : (1 ≤ times_in number i xs → Place i xs) → Place i (x ∷ xs)
      go rest =
          ⊎_elim (λ e. record { front = []; it = x; back = xs; is = refl; numbered = sym e })
          (λ n. let w = rest (omega (arith, times_later i x xs n, l)) in record { front = x ∷ w.front; it = w.it; back = w.back; is = ap (λ z. x ∷ z) w.is; numbered = w.numbered })
          (cases_eq i (number x))

  -- It stands before all with a larger number.
  pub record Lowest (i : ℕ) (xs : List X) : Type 0 where
    pub at : Place i xs
    pub low : (k : ℕ) → i < k → times_in number k at.front ≡ 0

  all_apart : (P : X → Type 0) (i : ℕ) (xs : List X) → times_in number i xs ≡ 0 → AllByRecursion P xs → AllByRecursion (λ x. (number x ≡ i → ⊥) × P x) xs
  all_apart P i [] z h = tt
  all_apart P i (x ∷ xs) z h =
      let c = sum_by-cons (λ y. one (eqb (number y) i)) x xs in
      let n : number x ≡ i → ⊥ = λ e. let a : one (eqb (number x) i) ≡ 1 = ap one (eq-eqb (number x) i e) in omega (arith, z, a, c) in
      ((n, h.0), all_apart P i xs (omega (arith, z, c)) h.1)

-- ---- a list that has each carrier of a kind once is as long as there are such carriers

module _ (p : Standing → Bool) (none : p Out ≡ false) where
  one_yes : (s : Standing) → 1 ≤ one (p s) → p s ≡ true
  one_yes s l = ⊎_elim (λ e. e) (λ e. let z : one (p s) ≡ 0 = ap one e in absurd (omega (arith, l, z))) (cases_Bool (p s))

  out_one : one (p Out) ≡ 0
  out_one = ap one none

  nobody : (ss : List Standing) → ((k : ℕ) → 0 ≡ one (p (get_or ss k Out))) → count_by p ss ≡ 0
  nobody [] h = refl
  nobody (s ∷ ss) h = let a = h 0 in let r = nobody ss (λ k. h (suc k)) in let c = sum_by-cons (λ x. one (p x)) s ss in omega (arith, a, r, c)

  pub within : (ss : List Standing) (k : ℕ) → 1 ≤ one (p (get_or ss k Out)) → k < length ss
  within ss k l =
      ⊎_elim (λ q. q) (λ q. let e : one (p (get_or ss k Out)) ≡ 0 = ap (λ s. one (p s)) (get_or_past ss k Out q) ∙ out_one in absurd (omega (arith, l, e))) (cases_lt k (length ss))

  pub times_count : {X : Type 0} (number : X → ℕ) (xs : List X) (ss : List Standing) → ((k : ℕ) → times_in number k xs ≡ one (p (get_or ss k Out))) → length xs ≡ count_by p ss
  times_count number [] ss h = sym (nobody ss h)
  times_count number (x ∷ xs) ss h =
      let a = times_first number x xs in
      let e = h (number x) in
      let y = one_yes (get_or ss (number x) Out) (omega (arith, a, e)) in
      let e1 : one (p (get_or ss (number x) Out)) ≡ 1 = ap one y in
      let l = within ss (number x) (omega (arith, e1)) in
      let r = times_count number xs (set ss (number x) Out) (rest l) in
      let c = count_set p ss (number x) Out Out l in
      let z = out_one in
      omega (arith, r, c, e1, z)
    where
      rest : number x < length ss → (k : ℕ) → times_in number k xs ≡ one (p (get_or (set ss (number x) Out) k Out))
      rest l k =
          ⊎_elim
          (λ q. let a = times_first number x xs in let e = h (number x) in
          let b = one_most (p (get_or ss (number x) Out)) in
          let s : one (p (get_or (set ss (number x) Out) (number x) Out)) ≡ 0 = ap (λ z. one (p z)) (get_or-set_same ss (number x) Out Out l) ∙ out_one in
          subst (λ n. times_in number n xs ≡ one (p (get_or (set ss (number x) Out) n Out))) (sym q) (omega (arith, a, e, b, s)))
          (λ n. let a = times_later number k x xs n in let e = h k in
          let s : one (p (get_or (set ss (number x) Out) k Out)) ≡ one (p (get_or ss k Out)) = ap (λ z. one (p z)) (get_or-set_other ss (number x) k Out Out n) in omega (arith, a, e, s))
          (cases_eq k (number x))

-- ---- what is gathered from the standings

module _ {X : Type 0} (f : ℕ → Standing → List X) where
  pub gathered_more : (i : ℕ) (xs : List Standing) (s : Standing) → gathered f i (xs ++ s ∷ []) ≡ gathered f i xs ++ f (i + length xs) s
  gathered_more i [] s = append-nil (f i s) ∙ ap (λ n. f n s) (omega arith)
  gathered_more i (x ∷ xs) s =
      ap (λ z. f i x ++ z) (gathered_more (suc i) xs s ∙ ap (λ n. gathered f (suc i) xs ++ f n s) (omega arith))
      ∙ sym (append_assoc (f i x) (gathered f (suc i) xs) (f (i + length (x ∷ xs)) s))

  pub gathered_short : ((i : ℕ) (s : Standing) → length (f i s) ≤ 1) → (i : ℕ) (ss : List Standing) → length (gathered f i ss) ≤ length ss
  gathered_short few i [] = omega arith
  gathered_short few i (s ∷ ss) =
      omega (arith, few i s, gathered_short few (suc i) ss, length-append (f i s) (gathered f (suc i) ss))

  -- A carrier is in what is gathered as often as its standing passes the test.
  module _ (number : X → ℕ) (p : Standing → Bool) (none : p Out ≡ false)
      (here : (i : ℕ) (s : Standing) → times_in number i (f i s) ≡ one (p s)) (there : (k i : ℕ) (s : Standing) → (k ≡ i → ⊥) → times_in number k (f i s) ≡ 0) where
    gathered_low : (k i : ℕ) (ss : List Standing) → k < i → times_in number k (gathered f i ss) ≡ 0
    gathered_low k i [] l = refl
    gathered_low k i (s ∷ ss) l =
        omega (arith, times_append number k (f i s) (gathered f (suc i) ss), there k i s (λ e. omega (arith, e, l)), gathered_low k (suc i) ss (omega arith))

    pub gathered_at : (i : ℕ) (ss : List Standing) (k : ℕ) → times_in number (i + k) (gathered f i ss) ≡ one (p (get_or ss k Out))
    gathered_at i [] k = sym (ap one none)
    gathered_at i (s ∷ ss) zero =
        let e : i ≡ i + 0 = omega arith in
        subst (λ z. times_in number z (gathered f i (s ∷ ss)) ≡ one (p s)) e
        (omega (arith, times_append number i (f i s) (gathered f (suc i) ss), here i s, gathered_low i (suc i) ss (omega arith)))
    gathered_at i (s ∷ ss) (suc k) =
        let e : i + suc k ≡ suc i + k = omega arith in
        let r : times_in number (i + suc k) (gathered f (suc i) ss) ≡ one (p (get_or ss k Out)) = ap (λ z. times_in number z (gathered f (suc i) ss)) e ∙ gathered_at (suc i) ss k in
        omega (arith, times_append number (i + suc k) (f i s) (gathered f (suc i) ss), there (i + suc k) i s (λ q. omega (arith, q)), r)

    -- What is gathered is ascending.
    pub gathered_lowest : (i n : ℕ) (ss : List Standing) → p (get_or ss n Out) ≡ true → Lowest number (i + n) (gathered f i ss)
    gathered_lowest i n [] e = absurd (both_ways (p Out) none e)
    gathered_lowest i zero (s ∷ ss) e =
        let w = place number i (f i s) (omega (arith, (let c : times_in number i (f i s) ≡ 1 = here i s ∙ ap one e in c))) in
        let b : (k : ℕ) → times_in number k (f i s) ≡ times_in number k w.front + times_in number k (w.it ∷ w.back) =
        λ k. ap (times_in number k) w.is ∙ times_append number k w.front (w.it ∷ w.back) in
        subst (λ z. Lowest number z (gathered f i (s ∷ ss))) (omega arith)
        (record {
          at = record {
            front = w.front;
            it = w.it;
            back = w.back ++ gathered f (suc i) ss;
            is = ap (λ z. z ++ gathered f (suc i) ss) w.is ∙ append_assoc w.front (w.it ∷ w.back) (gathered f (suc i) ss);
            numbered = w.numbered;
          };
          low = λ k l. omega (arith, there k i s (λ q. omega (arith, q, l)), b k);
        })
    gathered_lowest i (suc n) (s ∷ ss) e =
        let w = gathered_lowest (suc i) n ss e in
        subst (λ z. Lowest number z (gathered f i (s ∷ ss))) (omega arith)
        (record {
          at = record {
            front = f i s ++ w.at.front;
            it = w.at.it;
            back = w.at.back;
            is = ap (λ z. f i s ++ z) w.at.is ∙ sym (append_assoc (f i s) w.at.front (w.at.it ∷ w.at.back));
            numbered = w.at.numbered;
          };
          low = λ k l. omega (arith, times_append number k (f i s) w.at.front, there k i s (λ q. omega (arith, q, l)), w.low k l);
        })

-- ---- one standing changes

-- x counts before, and y after.
changes : (φ : Standing → ℕ) (ss : List Standing) (i : ℕ) (s : Standing) → i < length ss → (x y : ℕ → ℕ) → ((k : ℕ) → x k ≡ φ (get_or ss k Out)) →
    y i ≡ φ s → ((k : ℕ) → (k ≡ i → ⊥) → y k ≡ x k) → (k : ℕ) → y k ≡ φ (get_or (set ss i s) k Out)
changes φ ss i s l x y h here there k =
    ⊎_elim
    (λ e. subst (λ n. y n ≡ φ (get_or (set ss i s) n Out)) (sym e) (here ∙ sym (ap φ (get_or-set_same ss i s Out l))))
    (λ n. there k n ∙ h k ∙ sym (ap φ (get_or-set_other ss i k s Out n)))
    (cases_eq k i)

pub bidding_within : (ss : List Standing) (i : ℕ) (b : Bid) → get_or ss i Out ≡ Bidding b → i < length ss
bidding_within ss i b e = within is_bidding refl ss i (let z : one (is_bidding (get_or ss i Out)) ≡ 1 = ap (λ s. one (is_bidding s)) e in omega (arith, z))

pub is_waiting_lem : (s : Standing) → 1 ≤ one (is_waiting s) → s ≡ Waiting
is_waiting_lem Waiting l = refl
is_waiting_lem _ l = absurd (omega arith)

-- A carrier in flight that is not i stays due.
due_stays : (m : Meaning) (lanes : ℕ) (ss : List Standing) (i : ℕ) (s : Standing) (f : InFlight) → (f.carrier ≡ i → ⊥) → Due m lanes ss f → Due m lanes (set ss i s) f
due_stays m lanes ss i s f n d = (d.0, get_or-set_other ss i f.carrier s Out n ∙ d.1, d.2)

module _ (m : Meaning) (lanes : ℕ) where
  -- Who does not bid is not in flight.
  unflown : (ss : List Standing) (i : ℕ) → one (is_bidding (get_or ss i Out)) ≡ 0 → (f : InFlight) → Due m lanes ss f → f.carrier ≡ i → ⊥
  unflown ss i z f q e =
      let w : one (is_bidding (get_or ss i Out)) ≡ 1 = ap (λ k. one (is_bidding (get_or ss k Out))) (sym e) ∙ ap (λ s. one (is_bidding s)) q.1 in omega (arith, z, w)

  unflown_stay : (ss : List Standing) (i : ℕ) (s : Standing) (flight : List InFlight) → one (is_bidding (get_or ss i Out)) ≡ 0 → AllByRecursion (Due m lanes ss) flight → AllByRecursion (Due m lanes (set ss i s)) flight
  unflown_stay ss i s flight z = All-weaker (Due m lanes ss) (Due m lanes (set ss i s)) (λ f q. due_stays m lanes ss i s f (unflown ss i z f q) q) flight

  -- A waiting carrier is summoned.
  pub joins : (i n : ℕ) (line : List ℕ) (flight : List InFlight) (ss : List Standing) (b : Bid) → InOrder m lanes (i ∷ line) flight ss → n ≡ looks_for lanes (length (row_of m i) - b.looked) →
      InOrder m lanes line (flight ++ in_flight i n ∷ []) (set ss i (Bidding b))
  joins i n line flight ss b law d = record {
    waits = changes (λ s. one (is_waiting s)) ss i (Bidding b) inside (λ k. times_in (λ z. z) k (i ∷ line)) (λ k. times_in (λ z. z) k line) law.waits
        (omega (arith, times_first (λ z. z) i line, law.waits i, one_most (is_waiting (get_or ss i Out))))
        (λ k ne. sym (times_later (λ z. z) k i line ne));
    bids = changes (λ s. one (is_bidding s)) ss i (Bidding b) inside (λ k. times_in {X = InFlight} (λ f. f.carrier) k flight) (λ k. times_in {X = InFlight} (λ f. f.carrier) k (flight ++ in_flight i n ∷ [])) law.bids
        (omega (arith, times_here {X = InFlight} (λ f. f.carrier) (in_flight i n) flight, law.bids i, unbidding))
        (λ k ne. times_there {X = InFlight} (λ f. f.carrier) k (in_flight i n) flight ne);
    due = All-append (Due m lanes (set ss i (Bidding b))) flight (in_flight i n ∷ []) (unflown_stay ss i (Bidding b) flight unbidding law.due)
        ((b, get_or-set_same ss i (Bidding b) Out inside, d), tt);
  }
    where
      is : get_or ss i Out ≡ Waiting
      is = is_waiting_lem (get_or ss i Out) (omega (arith, times_first (λ z. z) i line, law.waits i))

      unbidding : one (is_bidding (get_or ss i Out)) ≡ 0
      unbidding = ap (λ s. one (is_bidding s)) is

      inside : i < length ss
      inside = within is_waiting refl ss i (let v : one (is_waiting (get_or ss i Out)) ≡ 1 = ap (λ s. one (is_waiting s)) is in omega (arith, v))

  module _ (f : InFlight) (line : List ℕ) (flight : List InFlight) (ss : List Standing) (law : InOrder m lanes line (f ∷ flight) ss) where
    first : Due m lanes ss f
    first = law.due.0

    inside : f.carrier < length ss
    inside = bidding_within ss f.carrier first.0 first.1

    alone : times_in {X = InFlight} (λ g. g.carrier) f.carrier flight ≡ 0
    alone =
        let a = times_first {X = InFlight} (λ g. g.carrier) f flight in let e = law.bids f.carrier in
        let v : one (is_bidding (get_or ss f.carrier Out)) ≡ 1 = ap (λ s. one (is_bidding s)) first.1 in omega (arith, a, e, v)

    not_in_line : times_in (λ z. z) f.carrier line ≡ 0
    not_in_line = law.waits f.carrier ∙ ap (λ s. one (is_waiting s)) first.1

    others_stay : (s : Standing) → AllByRecursion (Due m lanes (set ss f.carrier s)) flight
    others_stay s =
        All-weaker (λ g. (g.carrier ≡ f.carrier → ⊥) × Due m lanes ss g) (Due m lanes (set ss f.carrier s)) (λ g q. due_stays m lanes ss f.carrier s g q.0 q.1) flight
        (all_apart {X = InFlight} (λ g. g.carrier) (Due m lanes ss) f.carrier flight alone law.due.1)

    -- Of the rest of the flight, and of a flight that it has joined again.
    fewer_bid : (s : Standing) → is_bidding s ≡ false → (k : ℕ) → times_in {X = InFlight} (λ g. g.carrier) k flight ≡ one (is_bidding (get_or (set ss f.carrier s) k Out))
    fewer_bid s e = changes (λ z. one (is_bidding z)) ss f.carrier s inside (λ k. times_in {X = InFlight} (λ g. g.carrier) k (f ∷ flight)) (λ k. times_in {X = InFlight} (λ g. g.carrier) k flight) law.bids
        (alone ∙ sym (ap one e)) (λ k ne. sym (times_later {X = InFlight} (λ g. g.carrier) k f flight ne))

    -- The flight's first goes to its end, with another bid.
    pub rotates : (n : ℕ) (b : Bid) → n ≡ looks_for lanes (length (row_of m f.carrier) - b.looked) → InOrder m lanes line (flight ++ in_flight f.carrier n ∷ []) (set ss f.carrier (Bidding b))
    rotates n b d = record {
      waits = changes (λ z. one (is_waiting z)) ss f.carrier (Bidding b) inside (λ k. times_in (λ z. z) k line) (λ k. times_in (λ z. z) k line) law.waits not_in_line (λ k ne. refl);
      bids = changes (λ z. one (is_bidding z)) ss f.carrier (Bidding b) inside (λ k. times_in {X = InFlight} (λ g. g.carrier) k (f ∷ flight)) (λ k. times_in {X = InFlight} (λ g. g.carrier) k (flight ++ in_flight f.carrier n ∷ [])) law.bids
          (omega (arith, times_here {X = InFlight} (λ g. g.carrier) (in_flight f.carrier n) flight, alone))
          (λ k ne. times_there {X = InFlight} (λ g. g.carrier) k (in_flight f.carrier n) flight ne ∙ sym (times_later {X = InFlight} (λ g. g.carrier) k f flight ne));
      due = All-append (Due m lanes (set ss f.carrier (Bidding b))) flight (in_flight f.carrier n ∷ []) (others_stay (Bidding b)) ((b, get_or-set_same ss f.carrier (Bidding b) Out inside, d), tt);
    }

    -- It leaves, and waits no more.
    pub leaves : (s : Standing) → is_waiting s ≡ false → is_bidding s ≡ false → InOrder m lanes line flight (set ss f.carrier s)
    leaves s w b = record {
      waits = changes (λ z. one (is_waiting z)) ss f.carrier s inside (λ k. times_in (λ z. z) k line) (λ k. times_in (λ z. z) k line) law.waits (not_in_line ∙ sym (ap one w)) (λ k ne. refl);
      bids = fewer_bid s b;
      due = others_stay s;
    }

    -- It leaves, and waits again.
    pub returns : InOrder m lanes (line ++ f.carrier ∷ []) flight (set ss f.carrier Waiting)
    returns = record {
      waits = changes (λ z. one (is_waiting z)) ss f.carrier Waiting inside (λ k. times_in (λ z. z) k line) (λ k. times_in (λ z. z) k (line ++ f.carrier ∷ [])) law.waits
          (omega (arith, times_here (λ z. z) f.carrier line, not_in_line)) (λ k ne. times_there (λ v. v) k f.carrier line ne);
      bids = fewer_bid Waiting refl;
      due = others_stay Waiting;
    }

  -- A served carrier is displaced, and waits.
  pub displaces : (i : ℕ) (line : List ℕ) (flight : List InFlight) (ss : List Standing) → is_served (get_or ss i Out) ≡ true → InOrder m lanes line flight ss →
      InOrder m lanes (line ++ i ∷ []) flight (set ss i Waiting)
  displaces i line flight ss sv law = record {
    waits = changes (λ s. one (is_waiting s)) ss i Waiting inside (λ k. times_in (λ z. z) k line) (λ k. times_in (λ z. z) k (line ++ i ∷ [])) law.waits
        (omega (arith, times_here (λ z. z) i line, law.waits i, (neither (get_or ss i Out) sv).0))
        (λ k ne. times_there (λ v. v) k i line ne);
    bids = changes (λ s. one (is_bidding s)) ss i Waiting inside (λ k. times_in {X = InFlight} (λ f. f.carrier) k flight) (λ k. times_in {X = InFlight} (λ f. f.carrier) k flight) law.bids
        (law.bids i ∙ (neither (get_or ss i Out) sv).1) (λ k ne. refl);
    due = unflown_stay ss i Waiting flight (neither (get_or ss i Out) sv).1 law.due;
  }
    where
      neither : (s : Standing) → is_served s ≡ true → (one (is_waiting s) ≡ 0) × (one (is_bidding s) ≡ 0)
      neither (Served h) e = (refl, refl)
      neither _ e = absurd (both_ways false refl e)

      inside : i < length ss
      inside = within is_served refl ss i (let v : one (is_served (get_or ss i Out)) ≡ 1 = ap one sv in omega (arith, v))
