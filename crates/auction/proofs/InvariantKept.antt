-- Start, summon, look and settle keep the invariant.
use Rattle.std.proofs.Common.{◌≡◌, ℕ, ◌<◌, ◌≤◌, false, ltb, leb, length, replicate, pos, Some, None, Ok, Option, Result, sym, refl, ap, ◌∙◌, subst, ⊎_elim, arith}
use mathlib.Core.Logic.{∥∥₁_map}
use lib.Signed.{lt_z}
use borrow.Author.Differences.{lt-true, lt-false}
use Rattle.std.proofs.lemmas.Bool.{cases_eq, cond_both, ltb-true, leb-false}
use Rattle.std.proofs.lemmas.List.{get_or-replicate}
use Rattle.refusals.specs.declared.Refusal.{Refusal}
use Rattle.sources.specs.Meaning.{Meaning, Sound, row_of, worth_in}
use Rattle.auction.specs.declared.bidding.Best.{Best}
use Rattle.auction.specs.declared.bidding.Bid.{Bid}
use Rattle.auction.specs.declared.bidding.Counts.{Counts}
use Rattle.auction.specs.declared.bidding.Act.{Act}
use Rattle.auction.specs.declared.bidding.Act.TheVariants.{Summon, Look, Settle}
use Rattle.auction.specs.declared.bidding.Standing.{Standing}
use Rattle.auction.specs.declared.bidding.Standing.TheVariants.{Waiting, Bidding, Out}
use Rattle.auction.specs.declared.bidding.Verdict.{Verdict}
use Rattle.auction.specs.Standings.{BidSound, StandingSound}
use Rattle.auction.specs.Tally.{Tally, price_at, standing_at}
use Rattle.auction.specs.Bids.{new_bid, looked_on, offer, judged_best, best_worth}
use Rattle.auction.specs.Rules.{start_answer, tally_at_start, looked_all, bid_after, bid_at, if_accepted, with_standing, counted, bids, called, counted_out, counted_stale, carried_out, ended, settled}
use Rattle.sources.proofs.Reading.{row_rising}
use Rattle.auction.proofs.Rows.{job_in, worth_on, listed, by_entries}
use Rattle.auction.proofs.Nets.{natural-up, sides}
use Rattle.auction.proofs.Standings.{each_stands}
use Rattle.auction.proofs.Keeping.{limits_from_ok, at_start_consistent, call_consistent, ended_consistent, settle_takes}
use Rattle.auction.proofs.Invariant.{BidFits, StandingFits, Fits, Invariant}
use Rattle.auction.proofs.Finding.{new_bid_found, look_found}
use Rattle.auction.proofs.LooksFit.{looked_fits}
use Rattle.auction.proofs.AwardsFit.{awarded_fits}

-- ---- start

pub at_start_invariant : (m : Meaning) (step lanes : ℕ) → start_answer step lanes m ≡ Ok tt → Invariant m (tally_at_start m.carriers m.jobs step lanes)
unfolding tally_at_start
at_start_invariant m step lanes ok = record {
  consistent = at_start_consistent m.carriers m.jobs m.ceiling step lanes (limits_from_ok m step lanes ok);
  fits = λ i l. subst (StandingFits step (replicate m.jobs 0) (row_of m i)) (sym (get_or-replicate m.carriers i Waiting Out l)) tt;
}

module _ (m : Meaning) (sound : Sound m) where
  -- ---- a standing that fits is set

  with_standing-fits : (t : Tally) → Invariant m t → (i : ℕ) → i < m.carriers → (s : Standing) (n : Counts) → StandingFits t.step t.prices (row_of m i) s → Fits m (with_standing i s n t)
  with_standing-fits t inv i l s n good k =
      each_stands (λ a q. a < m.carriers → StandingFits t.step t.prices (row_of m a) q) t i s n
      (let e = inv.consistent.standings_sized in omega arith) (λ _. good) k (inv.fits k)

  -- ---- summon and look

  module _ (t : Tally) (inv : Invariant m t) (i : ℕ) where
    abbrev KeepsFit : (Bid → Tally → Tally) → Result Bid Refusal → Type 0
    KeepsFit f r = Fits m (if_accepted r f t)

    call_from : (act : Act) → i < m.carriers → (s : Standing) → standing_at t i ≡ s → KeepsFit (bids act i) (bid_after t.lanes t.prices (row_of m i) s act)
    call_from Summon l Waiting e = with_standing-fits t inv i l (Bidding new_bid) (counted Summon t.counts) (omega arith, λ k h. absurd (omega arith), ∣ new_bid_found t.prices (row_of m i) ∣₁)
    call_from Look l (Bidding b) e =
        cond_both {A = Result Bid Refusal} (looked_all (row_of m i) b) _ _ (KeepsFit (bids Look i)) (λ _. inv.fits)
        (λ _. let f = subst (StandingFits t.step t.prices (row_of m i)) e (inv.fits i l) in
        let g = looked_fits t.prices (row_of m i) (row_rising m sound i) t.lanes b (f.0, f.1) in
        with_standing-fits t inv i l (Bidding (looked_on t.lanes t.prices (row_of m i) b)) t.counts (g.0, g.1, ∥∥₁_map f.2 (look_found t.prices (row_of m i) t.lanes b)))
    call_from Settle l (Bidding b) e =
        cond_both {A = Result Bid Refusal} (looked_all (row_of m i) b) _ _ (KeepsFit (bids Settle i))
        (λ _. with_standing-fits t inv i l (Bidding b) t.counts (subst (StandingFits t.step t.prices (row_of m i)) e (inv.fits i l))) (λ _. inv.fits)
    call_from _ l _ e = inv.fits

    pub call_keeps : (act : Act) → Invariant m (called m i act t)
    unfolding bid_at
    call_keeps act = record {
      consistent = call_consistent m sound t inv.consistent i act;
      fits = cond_both {A = Result Bid Refusal} (ltb i m.carriers) _ _ (KeepsFit (bids act i)) (λ q. call_from act (ltb-true i m.carriers q) (standing_at t i) refl) (λ _. inv.fits);
    }

    -- ---- settle

    module _ (l : i < m.carriers) (b : Bid) (e : standing_at t i ≡ Bidding b) (all : length (row_of m i) ≤ b.looked) where
      settle_best : (o : Option Best) → BidSound m.jobs m.ceiling b.runner_up o → BidFits t.prices (row_of m i) b.looked b.runner_up o →
          Fits m (carried_out i (best_worth o) (judged_best t.step t.prices t.holders b.runner_up o) t)
      settle_best None h g = with_standing-fits t inv i l Out (counted_out t.counts)
          (by_entries (λ j v. v ≤ price_at t j) (row_of m i) (λ j. omega arith) (λ k q. let z = g k (omega (arith, q, all)) in omega (arith, z)))
      settle_best (Some x) h g =
          cond_both {A = Verdict} (lt_z (pos 0) x.net) _ _ (λ v. Fits m (carried_out i x.worth v t))
          (λ p. let a = lt-true (pos 0) x.net p in let z = sides x.net in
          cond_both {A = Verdict} (leb (offer t.step b.runner_up x) (price_at t x.job)) _ _ (λ v. Fits m (carried_out i x.worth v t))
          (λ _. with_standing-fits t inv i l Waiting (counted_stale t.counts) tt)
          (λ high. awarded_fits m sound t inv i l b e all x h g (omega (arith, a, z)) (leb-false (offer t.step b.runner_up x) (price_at t x.job) high)))
          (λ p. with_standing-fits t inv i l Out (counted_out t.counts) (by_entries (λ j v. v ≤ price_at t j) (row_of m i) (λ j. omega arith) (each p)))
        where
          each : lt_z (pos 0) x.net ≡ false → (k : ℕ) → k < length (row_of m i) → worth_on (row_of m i) k ≤ price_at t (job_in (row_of m i) k)
          each p k q =
              let a = lt-false (pos 0) x.net p in let z = sides x.net in let f = g.seen in let u = h.low_runner in let n = natural-up x.net in
              ⊎_elim
              (λ j. let v : worth_on (row_of m i) k ≡ x.worth = sym (listed 0 (row_of m i) (row_rising m sound i) k q) ∙ ap (worth_in (row_of m i)) j ∙ sym g.worth_is in
              let w : price_at t (job_in (row_of m i) k) ≡ price_at t x.job = ap (price_at t) j in omega (arith, v, w, a, z, f))
              (λ ne. let w = g.others k (omega (arith, q, all)) ne in omega (arith, a, z, w, u, n)) (cases_eq (job_in (row_of m i) k) x.job)

      ended_invariant : Invariant m (ended i b t)
      ended_invariant = record {
        consistent = ended_consistent m.carriers m.jobs m.ceiling t inv.consistent i l b e;
        fits = settle_best b.best (subst (StandingSound m.jobs m.ceiling) e (inv.consistent.sound i))
            (subst (StandingFits t.step t.prices (row_of m i)) e (inv.fits i l)).1;
      }

    pub settle_keeps : Invariant m (settled m i t)
    settle_keeps = settle_takes m t i (Invariant m) inv ended_invariant
