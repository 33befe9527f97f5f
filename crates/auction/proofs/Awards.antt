-- An award keeps the tally consistent.
use Rattle.std.proofs.Common.{◌≡◌, ℕ, ◌+◌, ◌-◌, ◌*◌, ◌<◌, ◌≤◌, Bool, true, false, List, length, get_or, set, Some, None, count_by, Option, sym, refl, ap, ◌∙◌, subst, ⊎_elim, arith}
use Rattle.std.proofs.lemmas.Option.{none-some}
use Rattle.std.proofs.lemmas.Bool.{cases_eq, cases_Bool, eq-eqb, ne_eqb}
use Rattle.std.proofs.lemmas.List.{get_or-set_same, get_or-set_other, length-set}
use Rattle.std.proofs.lemmas.List.Sums.{sum_by-set}
use Rattle.auction.specs.declared.bidding.Best.{Best}
use Rattle.auction.specs.declared.bidding.Bid.{Bid}
use Rattle.auction.specs.declared.bidding.Held.{Held}
use Rattle.auction.specs.declared.bidding.Standing.{Standing}
use Rattle.auction.specs.declared.bidding.Standing.TheVariants.{Waiting, Bidding, Served, Out}
use Rattle.auction.specs.declared.bidding.Verdict.TheVariants.{Awarded}
use Rattle.auction.specs.Standings.{is_bidding, is_out, holds_job, BestSound, StandingSound, is_risen}
use Rattle.auction.specs.Tally.{Tally, price_at, holder_at, standing_at, is_holder}
use Rattle.auction.specs.Bids.{offer}
use Rattle.auction.specs.Rules.{freed, carried_out}
use Rattle.auction.specs.Consistent.{Consistent}
use Rattle.auction.proofs.Counted.{one, count_set, count_short}
use Rattle.auction.proofs.Matching.{holds_within, holds_other, is_holder_lem, holder_is, holder_holds, length-freed, freed_other, freed_waits, freed_count}

module _ (carriers jobs ceiling : ℕ) (t : Tally) (con : Consistent carriers jobs ceiling t) (i : ℕ) (l : i < carriers) (b : Bid) (bidding : standing_at t i ≡ Bidding b)
    (r : ℕ) (x : Best) (good : BestSound jobs ceiling r x) (above : price_at t x.job < offer t.step r x) where
  abbrev j : ℕ
  j = x.job

  abbrev c : ℕ
  c = offer t.step r x

  abbrev pub new_prices : List ℕ
  new_prices = set t.prices j c

  abbrev hs : List (Option ℕ)
  hs = set t.holders j (Some i)

  abbrev o : Option ℕ
  o = holder_at t j

  abbrev now_held : Held
  now_held = record { job = j; worth = x.worth }

  abbrev pub new_standings : List Standing
  new_standings = set (freed t.standings o) i (Served now_held)

  in_prices : j < length t.prices
  in_prices = let e = con.prices_sized in let a = good.known in omega arith

  in_holders : j < length t.holders
  in_holders = let e = con.holders_sized in let a = good.known in omega arith

  in_freed : i < length (freed t.standings o)
  in_freed = let e = con.standings_sized in let a = length-freed t.standings o in omega arith

  pub price_here : get_or new_prices j 0 ≡ c
  price_here = get_or-set_same t.prices j c 0 in_prices

  pub price_there : (k : ℕ) → (k ≡ j → ⊥) → get_or new_prices k 0 ≡ price_at t k
  price_there k ne = get_or-set_other t.prices j k c 0 ne

  -- Prices only rise.
  pub rises : (k : ℕ) → price_at t k ≤ get_or new_prices k 0
  rises k =
      ⊎_elim (λ e. subst (λ a. price_at t a ≤ get_or new_prices a 0) (sym e) (let p = price_here in omega (arith, above, p)))
      (λ ne. let p = price_there k ne in omega arith) (cases_eq k j)

  holder_here : get_or hs j None ≡ Some i
  holder_here = get_or-set_same t.holders j (Some i) None in_holders

  holder_there : (k : ℕ) → (k ≡ j → ⊥) → get_or hs k None ≡ holder_at t k
  holder_there k ne = get_or-set_other t.holders j k (Some i) None ne

  pub stands_here : get_or new_standings i Out ≡ Served now_held
  stands_here = get_or-set_same (freed t.standings o) i (Served now_held) Out in_freed

  stands_next : (k : ℕ) → (k ≡ i → ⊥) → get_or new_standings k Out ≡ get_or (freed t.standings o) k Out
  stands_next k ne = get_or-set_other (freed t.standings o) i k (Served now_held) Out ne

  pub stands_there : (k : ℕ) → (k ≡ i → ⊥) → is_holder k o ≡ false → get_or new_standings k Out ≡ standing_at t k
  stands_there k ne nf = stands_next k ne ∙ freed_other t.standings o k nf

  -- The former holder holds this job, and no other.
  was_held : (k : ℕ) → is_holder k o ≡ true → holds_job j (standing_at t k) ≡ true
  was_held k f = holder_holds carriers jobs ceiling t con j k (is_holder_lem k o f)

  pub stands-freed : (k : ℕ) → (k ≡ i → ⊥) → is_holder k o ≡ true → get_or new_standings k Out ≡ Waiting
  stands-freed k ne f = stands_next k ne ∙ freed_waits t.standings o k f (holds_within t.standings j k (was_held k f))

  -- The winner held no job.
  pub held_none : (a : ℕ) → is_holder i (holder_at t a) ≡ false
  held_none a = con.matched i a ∙ ap (holds_job a) bidding

  -- What holds of the winner, of who waits, and of each other standing, holds of each after.
  pub each_after : (P : ℕ → Standing → Type 0) → P i (Served now_held) → ((k : ℕ) → is_holder k o ≡ true → P k Waiting) →
      (k : ℕ) → (is_holder k o ≡ false → P k (standing_at t k)) → P k (get_or new_standings k Out)
  each_after P mine freed' k other =
      ⊎_elim (λ e. subst (λ a. P a (get_or new_standings a Out)) (sym e) (subst (P i) (sym stands_here) mine))
      (λ ne. ⊎_elim (λ f. subst (P k) (sym (stands-freed k ne f)) (freed' k f)) (λ nf. subst (P k) (sym (stands_there k ne nf)) (other nf)) (cases_Bool (is_holder k o)))
      (cases_eq k i)

  matched_here : (k : ℕ) → is_holder k (Some i) ≡ holds_job j (get_or new_standings k Out)
  matched_here k =
      ⊎_elim (λ e. subst (λ a. is_holder a (Some i) ≡ holds_job j (get_or new_standings a Out)) (sym e)
      (eq-eqb i i refl ∙ sym (ap (holds_job j) stands_here ∙ eq-eqb j j refl)))
      (λ ne. ne_eqb i k (λ q. ne (sym q)) ∙ sym (⊎_elim (λ f. ap (holds_job j) (stands-freed k ne f))
      (λ nf. ap (holds_job j) (stands_there k ne nf) ∙ sym (con.matched k j) ∙ nf) (cases_Bool (is_holder k o)))) (cases_eq k i)

  matched_there : (a : ℕ) → (a ≡ j → ⊥) → (k : ℕ) → is_holder k (holder_at t a) ≡ holds_job a (get_or new_standings k Out)
  matched_there a na k = each_after (λ k' s. is_holder k' (holder_at t a) ≡ holds_job a s)
      (held_none a ∙ sym (ne_eqb j a (λ q. na (sym q))))
      (λ k' f. con.matched k' a ∙ holds_other j a (standing_at t k') (was_held k' f) na) k (λ _. con.matched k a)

  matched' : (k a : ℕ) → is_holder k (get_or hs a None) ≡ holds_job a (get_or new_standings k Out)
  matched' k a =
      ⊎_elim (λ e. subst (λ q. is_holder k (get_or hs q None) ≡ holds_job q (get_or new_standings k Out)) (sym e) (ap (is_holder k) holder_here ∙ matched_here k))
      (λ na. ap (is_holder k) (holder_there a na) ∙ matched_there a na k) (cases_eq a j)

  -- A count of neither served nor waiting carriers loses the winner.
  count_after : (p : Standing → Bool) → ((h : Held) → p (Served h) ≡ false) → p Waiting ≡ false → count_by p new_standings + one (p (Bidding b)) ≡ count_by p t.standings
  count_after p s w =
      let a = count_set p (freed t.standings o) i (Served now_held) Out in_freed in
      let z : one (p (get_or (freed t.standings o) i Out)) ≡ one (p (Bidding b)) = ap (λ q. one (p q)) (freed_other t.standings o i (held_none j) ∙ bidding) in
      let d = freed_count p s w t.standings j o (λ k f. was_held k (holder_is k o f)) in
      let e : one (p (Served now_held)) ≡ 0 = ap one (s now_held) in
      omega (arith, a, z, d, e)

  sized : length new_standings ≡ carriers
  sized = length-set (freed t.standings o) i (Served now_held) ∙ length-freed t.standings o ∙ con.standings_sized

  pub awarded : Consistent carriers jobs ceiling (carried_out i x.worth (Awarded (record { job = j; price = c; displaced = o })) t)
  awarded = record {
    limits = con.limits;
    prices_sized = length-set t.prices j c ∙ con.prices_sized;
    holders_sized = length-set t.holders j (Some i) ∙ con.holders_sized;
    standings_sized = sized;
    sound = λ k. each_after (λ _ s. StandingSound jobs ceiling s) good.low_worth (λ _ _. tt) k (λ _. con.sound k);
    matched = matched';
    unheld = λ a e. ⊎_elim (λ q. absurd (none-some _ (sym e ∙ ap (λ z. get_or hs z None) q ∙ holder_here)))
        (λ ne. price_there a ne ∙ con.unheld a (sym (holder_there a ne) ∙ e)) (cases_eq a j);
    low_prices = λ a. ⊎_elim (λ q. let p : get_or new_prices a 0 ≡ c = ap (λ z. get_or new_prices z 0) q ∙ price_here in let w = good.low_worth in omega (arith, p, w))
        (λ ne. let p = price_there a ne in let d = con.low_prices a in omega (arith, p, d)) (cases_eq a j);
    raised = let s = sum_by-set (λ v. v) t.prices j c 0 in_prices in let d = con.raised in omega (arith, s, d, above);
    balanced = let a = count_after is_bidding (λ h. refl) refl in let d = con.balanced in omega (arith, a, d);
    outs_stay = let a = count_after is_out (λ h. refl) refl in let d = con.outs_stay in omega (arith, a, d);
    few_stales = few;
  }
    where
      few : t.counts.stales + count_by (is_risen new_prices) new_standings ≤ (carriers - 1) * (t.counts.awards + 1)
      few =
          let a = count_short (is_risen new_prices) new_standings i Out (let z = sized in omega (arith, z, l)) (ap (is_risen new_prices) stands_here) in
          let d = con.few_stales in let z = sized in
          omega (arith, a, d, z)
