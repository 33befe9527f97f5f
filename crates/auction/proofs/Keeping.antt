-- Start, summon, look and settle keep the tally consistent; and no count of a consistent tally is large.
use Rattle.std.proofs.Common.{◌≡◌, ℕ, ◌+◌, ◌-◌, ◌*◌, ◌^◌, ◌<◌, ◌≤◌, true, false, ltb, leb, List, length, get_or, replicate, pos, Some, None, Ok, sum, count_by, Option, Result, sym, refl, ap, ◌∙◌, subst, ⊎_elim, mul-le-mul, arith}
use lib.Signed.{lt_z}
use Rattle.std.proofs.lemmas.Bool.{cases_lt, cond_both, ltb-true, leb-true, leb-false, false≢true}
use Rattle.std.proofs.lemmas.Bool.Decides.{nat_tests}
use Rattle.std.proofs.lemmas.List.{get_or_past, get_or-replicate, length-replicate}
use Rattle.std.proofs.ByRecursion.{All-from_get_or, sum_by_le}
use Rattle.std.proofs.lemmas.List.Sums.{count_by-le-length}
use Rattle.refusals.specs.declared.Refusal.{Refusal}
use Rattle.sources.specs.Meaning.{Meaning, Sound, row_of}
use Rattle.auction.specs.declared.bidding.Best.{Best}
use Rattle.auction.specs.declared.bidding.Bid.{Bid}
use Rattle.auction.specs.declared.bidding.Act.{Act}
use Rattle.auction.specs.declared.bidding.Act.TheVariants.{Summon, Look, Settle}
use Rattle.auction.specs.declared.bidding.Standing.{Standing}
use Rattle.auction.specs.declared.bidding.Standing.TheVariants.{Waiting, Bidding, Out}
use Rattle.auction.specs.declared.bidding.Verdict.{Verdict}
use Rattle.auction.specs.declared.bidding.Verdict.TheVariants.{Out as GoesOut, Stale}
use Rattle.auction.specs.Standings.{is_bidding, is_served, is_out, holds_job, BidSound, StandingSound, best_risen, is_risen}
use Rattle.auction.specs.Tally.{Tally, price_at, standing_at, is_holder}
use Rattle.auction.specs.Bids.{new_bid, looked_on, offer, judged_best, best_worth}
use Rattle.auction.specs.Rules.{start_answer, tally_at_start, looked_all, bid_after, bid_at, if_accepted, counted, bids, called, counted_out, counted_stale, carried_out, ended, settled}
use Rattle.auction.specs.Consistent.{Limits, Consistent}
use Rattle.sources.proofs.Reading.{row_known, row_within}
use Rattle.auction.proofs.Counted.{one, none_counted}
use Rattle.auction.proofs.Nets.{stale_risen}
use Rattle.auction.proofs.Standings.{restood}
use Rattle.auction.proofs.Awards.{awarded}
use Rattle.auction.proofs.Looks.{looked_sound}

-- ---- start

in_replicate : {X : Type 0} (n k : ℕ) (x : X) → get_or (replicate n x) k x ≡ x
in_replicate n k x =
    ⊎_elim (λ l. get_or-replicate n k x x l) (λ l. get_or_past (replicate n x) k x (let e = length-replicate n x in omega arith)) (cases_lt k n)

-- What holds of waiting and of out holds of each carrier of a list that waits.
all_wait : (P : Standing → Type 0) → P Waiting → P Out → (n k : ℕ) → P (get_or (replicate n Waiting) k Out)
all_wait P w o n k =
    ⊎_elim (λ l. subst P (sym (get_or-replicate n k Waiting Out l)) w)
    (λ l. subst P (sym (get_or_past (replicate n Waiting) k Out (let e = length-replicate n Waiting in omega arith))) o) (cases_lt k n)

pub limits_from_ok : (m : Meaning) (step lanes : ℕ) → start_answer step lanes m ≡ Ok tt → Limits m.carriers m.jobs m.ceiling step lanes
limits_from_ok m step lanes e = record {
  few_carriers = grind (arith, nat_tests);
  few_jobs = grind (arith, nat_tests);
  low_ceiling = grind (arith, nat_tests);
  some_step = grind (arith, nat_tests);
  low_step = grind (arith, nat_tests);
  some_lanes = grind (arith, nat_tests);
  few_lanes = grind (arith, nat_tests);
}

pub at_start_consistent : (carriers jobs ceiling step lanes : ℕ) → Limits carriers jobs ceiling step lanes → Consistent carriers jobs ceiling (tally_at_start carriers jobs step lanes)
unfolding tally_at_start
at_start_consistent carriers jobs ceiling step lanes limits = record {
  limits = limits;
  prices_sized = length-replicate jobs 0;
  holders_sized = length-replicate jobs None;
  standings_sized = length-replicate carriers Waiting;
  sound = λ i. all_wait (StandingSound jobs ceiling) tt tt carriers i;
  matched = λ i j. ap (is_holder i) (in_replicate jobs j None) ∙ all_wait (λ s. false ≡ holds_job j s) refl refl carriers i;
  unheld = λ j _. in_replicate jobs j 0;
  low_prices = λ j. let z = in_replicate {X = ℕ} jobs j 0 in omega arith;
  raised = omega arith;
  balanced = let z = none_counted is_bidding carriers Waiting refl in omega (arith, z);
  outs_stay = sym (none_counted is_out carriers Waiting refl);
  few_stales = let z = none_counted (is_risen (replicate jobs 0)) carriers Waiting refl in omega (arith, z);
}

-- ---- summon and look

module _ (m : Meaning) (sound : Sound m) (t : Tally) (con : Consistent m.carriers m.jobs m.ceiling t) (i : ℕ) where
  -- A refused call leaves the tally as it is.
  abbrev Keeps : (Bid → Tally → Tally) → Result Bid Refusal → Type 0
  Keeps f r = Consistent m.carriers m.jobs m.ceiling (if_accepted r f t)

  call_from : (act : Act) → i < m.carriers → (s : Standing) → standing_at t i ≡ s → Keeps (bids act i) (bid_after t.lanes t.prices (row_of m i) s act)
  call_from Summon l Waiting e =
      let a : one (is_bidding (standing_at t i)) ≡ 0 = ap (λ s. one (is_bidding s)) e in
      let d : one (is_out (standing_at t i)) ≡ 0 = ap (λ s. one (is_out s)) e in
      restood m.carriers m.jobs m.ceiling t con i l (Bidding new_bid) (counted Summon t.counts) (ap is_served e) refl refl refl
      (omega (arith, a)) (omega (arith, d)) (omega arith)
  call_from Look l (Bidding b) e =
      cond_both {A = Result Bid Refusal} (looked_all (row_of m i) b) _ _ (Keeps (bids Look i)) (λ _. con)
      (λ _. let k = looked_sound m.jobs m.ceiling t.prices t.lanes (row_of m i) b (row_known m sound i) (row_within m sound i)
      (subst (StandingSound m.jobs m.ceiling) e (con.sound i)) in
      let a : one (is_bidding (standing_at t i)) ≡ 1 = ap (λ s. one (is_bidding s)) e in
      let d : one (is_out (standing_at t i)) ≡ 0 = ap (λ s. one (is_out s)) e in
      let x : one (is_risen t.prices (standing_at t i)) ≡ one (best_risen t.prices b.best) = ap (λ s. one (is_risen t.prices s)) e in
      restood m.carriers m.jobs m.ceiling t con i l (Bidding (looked_on t.lanes t.prices (row_of m i) b)) t.counts (ap is_served e) refl k.0 refl
      (omega (arith, a)) (omega (arith, d)) (omega (arith, x, k.1)))
  call_from Settle l (Bidding b) e =
      cond_both {A = Result Bid Refusal} (looked_all (row_of m i) b) _ _ (Keeps (bids Settle i))
      (λ _. let a : one (is_bidding (standing_at t i)) ≡ 1 = ap (λ s. one (is_bidding s)) e in
      let d : one (is_out (standing_at t i)) ≡ 0 = ap (λ s. one (is_out s)) e in
      let x : one (is_risen t.prices (standing_at t i)) ≡ one (best_risen t.prices b.best) = ap (λ s. one (is_risen t.prices s)) e in
      restood m.carriers m.jobs m.ceiling t con i l (Bidding b) t.counts (ap is_served e) refl (subst (StandingSound m.jobs m.ceiling) e (con.sound i)) refl
      (omega (arith, a)) (omega (arith, d)) (omega (arith, x))) (λ _. con)
  call_from _ l _ e = con

  pub call_consistent : (act : Act) → Consistent m.carriers m.jobs m.ceiling (called m i act t)
  unfolding bid_at
  call_consistent act =
      cond_both {A = Result Bid Refusal} (ltb i m.carriers) _ _ (Keeps (bids act i)) (λ q. call_from act (ltb-true i m.carriers q) (standing_at t i) refl) (λ _. con)

-- ---- settle

module _ (carriers jobs ceiling : ℕ) (t : Tally) (con : Consistent carriers jobs ceiling t) (i : ℕ) (l : i < carriers) (b : Bid) (e : standing_at t i ≡ Bidding b) where
  goes_out : (w : ℕ) → Consistent carriers jobs ceiling (carried_out i w GoesOut t)
  goes_out w =
      let a : one (is_bidding (standing_at t i)) ≡ 1 = ap (λ s. one (is_bidding s)) e in
      let d : one (is_out (standing_at t i)) ≡ 0 = ap (λ s. one (is_out s)) e in
      restood carriers jobs ceiling t con i l Out (counted_out t.counts) (ap is_served e) refl tt refl (omega (arith, a)) (omega (arith, d)) (omega arith)

  -- A stale bid's price had risen.
  goes_stale : (w : ℕ) → best_risen t.prices b.best ≡ true → Consistent carriers jobs ceiling (carried_out i w Stale t)
  goes_stale w risen =
      let a : one (is_bidding (standing_at t i)) ≡ 1 = ap (λ s. one (is_bidding s)) e in
      let d : one (is_out (standing_at t i)) ≡ 0 = ap (λ s. one (is_out s)) e in
      let x : one (is_risen t.prices (standing_at t i)) ≡ 1 = ap (λ s. one (is_risen t.prices s)) e ∙ ap one risen in
      restood carriers jobs ceiling t con i l Waiting (counted_stale t.counts) (ap is_served e) refl tt refl (omega (arith, a)) (omega (arith, d)) (omega (arith, x))

  settle_best : (o : Option Best) → b.best ≡ o → BidSound jobs ceiling b.runner_up o →
      Consistent carriers jobs ceiling (carried_out i (best_worth o) (judged_best t.step t.prices t.holders b.runner_up o) t)
  settle_best None q h = goes_out 0
  settle_best (Some x) q h =
      cond_both {A = Verdict} (lt_z (pos 0) x.net) _ _ (λ v. Consistent carriers jobs ceiling (carried_out i x.worth v t))
      (λ p. cond_both {A = Verdict} (leb (offer t.step b.runner_up x) (price_at t x.job)) _ _ (λ v. Consistent carriers jobs ceiling (carried_out i x.worth v t))
      (λ low. goes_stale x.worth (ap (best_risen t.prices) q ∙ stale_risen t.prices t.step b.runner_up x con.limits.some_step h.low_runner p low))
      (λ high. awarded carriers jobs ceiling t con i l b e b.runner_up x h (leb-false (offer t.step b.runner_up x) (price_at t x.job) high)))
      (λ _. goes_out x.worth)

  pub ended_consistent : Consistent carriers jobs ceiling (ended i b t)
  ended_consistent = settle_best b.best refl (subst (StandingSound jobs ceiling) e (con.sound i))

-- What holds before holds after a settle, if it holds after each bid that ends.
module _ (m : Meaning) (t : Tally) (i : ℕ) (P : Tally → Type 0) (h : P t)
    (ends : i < m.carriers → (b : Bid) → standing_at t i ≡ Bidding b → length (row_of m i) ≤ b.looked → P (ended i b t)) where
  settle_from : i < m.carriers → (s : Standing) → standing_at t i ≡ s → P (if_accepted (bid_after t.lanes t.prices (row_of m i) s Settle) (ended i) t)
  settle_from l (Bidding b) e =
      cond_both {A = Result Bid Refusal} (looked_all (row_of m i) b) _ _ (λ r. P (if_accepted r (ended i) t))
      (λ q. ends l b e (leb-true (length (row_of m i)) b.looked q)) (λ _. h)
  settle_from l _ e = h

  pub settle_takes : P (settled m i t)
  unfolding bid_at
  settle_takes =
      cond_both {A = Result Bid Refusal} (ltb i m.carriers) _ _ (λ r. P (if_accepted r (ended i) t)) (λ q. settle_from (ltb-true i m.carriers q) (standing_at t i) refl) (λ _. h)

pub settle_consistent : (m : Meaning) (t : Tally) → Consistent m.carriers m.jobs m.ceiling t → (i : ℕ) → Consistent m.carriers m.jobs m.ceiling (settled m i t)
settle_consistent m t con i =
    settle_takes m t i (Consistent m.carriers m.jobs m.ceiling) con (λ l b e _. ended_consistent m.carriers m.jobs m.ceiling t con i l b e)

-- The bid that settles is the one that the carrier's standing keeps.
pub settle_stands : (lanes : ℕ) (ps : List ℕ) (row : List (ℕ × ℕ)) (s : Standing) (b : Bid) → bid_after lanes ps row s Settle ≡ Ok b → s ≡ Bidding b
settle_stands lanes ps row (Bidding a) b e =
    cond_both {A = Result Bid Refusal} (looked_all row a) _ _ (λ r. r ≡ Ok b → Bidding a ≡ Bidding b)
    (λ _ q. cc) (λ _ q. absurd (false≢true cc)) e
settle_stands lanes ps row _ b e = absurd (false≢true cc)

-- ---- no count is large

pub record LowCounts (t : Tally) : Type 0 where
  pub low_awards : t.counts.awards ≤ 2 ^ 45
  pub low_stales : t.counts.stales ≤ 2 ^ 52
  pub low_outs : t.counts.outs ≤ 128
  pub low_summonses : t.counts.summonses ≤ 2 ^ 53

pub few_awards : (carriers jobs ceiling : ℕ) (t : Tally) → Consistent carriers jobs ceiling t → t.counts.awards ≤ jobs * (ceiling + t.step)
few_awards carriers jobs ceiling t con =
    let a = sum_by_le (λ x. x) (ceiling + t.step) t.prices (All-from_get_or (λ x. x ≤ ceiling + t.step) t.prices 0 (λ j _. con.low_prices j)) in
    let b : sum t.prices ≤ jobs * (ceiling + t.step) = subst (λ n. sum t.prices ≤ n * (ceiling + t.step)) con.prices_sized a in
    let c = con.raised in omega (arith, b, c)

pub low_counts : (carriers jobs ceiling : ℕ) (t : Tally) → Consistent carriers jobs ceiling t → LowCounts t
low_counts carriers jobs ceiling t con =
    let k = con.limits in
    let top : ceiling + t.step ≤ 2 ^ 37 = omega (arith, k.low_ceiling, k.low_step) in
    let rest : carriers - 1 ≤ 127 = omega (arith, k.few_carriers) in
    let p : jobs * (ceiling + t.step) ≤ 256 * 2 ^ 37 = mul-le-mul k.few_jobs top in
    let a : t.counts.awards ≤ 2 ^ 45 = omega (arith, p, few_awards carriers jobs ceiling t con) in
    let q : (carriers - 1) * t.counts.awards ≤ 127 * 2 ^ 45 = mul-le-mul rest a in
    let s : t.counts.stales ≤ 127 * 2 ^ 45 = omega (arith, q, con.few_stales) in
    let o : t.counts.outs ≤ 128 = omega (arith, con.outs_stay, count_by-le-length is_out t.standings, con.standings_sized, k.few_carriers) in
    let b : count_by is_bidding t.standings ≤ 128 = omega (arith, count_by-le-length is_bidding t.standings, con.standings_sized, k.few_carriers) in
    record { low_awards = a; low_stales = omega (arith, s); low_outs = o; low_summonses = omega (arith, con.balanced, a, s, o, b) }
