-- A carrier that is served neither before nor after changes its standing: the tally stays consistent.
use Rattle.std.proofs.Common.{◌≡◌, ℕ, ◌+◌, ◌-◌, ◌*◌, ◌<◌, ◌≤◌, false, length, get_or, set, count_by, sym, ◌∙◌, subst, ⊎_elim, arith}
use Rattle.std.proofs.lemmas.Bool.{cases_eq}
use Rattle.std.proofs.lemmas.List.{get_or-set_same, get_or-set_other, length-set}
use Rattle.auction.specs.declared.bidding.Counts.{Counts}
use Rattle.auction.specs.declared.bidding.Standing.{Standing}
use Rattle.auction.specs.declared.bidding.Standing.TheVariants.{Out}
use Rattle.auction.specs.Standings.{is_bidding, is_served, is_out, holds_job, StandingSound, is_risen}
use Rattle.auction.specs.Tally.{Tally, holder_at, standing_at, is_holder}
use Rattle.auction.specs.Rules.{with_standing}
use Rattle.auction.specs.Consistent.{Consistent}
use Rattle.auction.proofs.Counted.{one, count_set}
use Rattle.auction.proofs.Matching.{holds_none}

-- What holds of the standing at each place, and of the new one, holds of each after.
pub each_stands : (P : ℕ → Standing → Type 0) (t : Tally) (i : ℕ) (s : Standing) (n : Counts) → i < length t.standings → P i s →
    (k : ℕ) → P k (standing_at t k) → P k (standing_at (with_standing i s n t) k)
each_stands P t i s n l h k old =
    ⊎_elim (λ e. subst (λ a. P a (get_or (set t.standings i s) a Out)) (sym e) (subst (P i) (sym (get_or-set_same t.standings i s Out l)) h))
    (λ ne. subst (P k) (sym (get_or-set_other t.standings i k s Out ne)) old) (cases_eq k i)

module _ (carriers jobs ceiling : ℕ) (t : Tally) (con : Consistent carriers jobs ceiling t) (i : ℕ) (l : i < carriers) (s : Standing) (n : Counts)
    (was : is_served (standing_at t i) ≡ false) (is : is_served s ≡ false) (good : StandingSound jobs ceiling s)
    (same : n.awards ≡ t.counts.awards)
    (bal : n.summonses + one (is_bidding (standing_at t i)) + t.counts.stales + t.counts.outs ≡ t.counts.summonses + one (is_bidding s) + n.stales + n.outs)
    (left : n.outs + one (is_out (standing_at t i)) ≡ t.counts.outs + one (is_out s))
    (rise : n.stales + one (is_risen t.prices s) ≤ t.counts.stales + one (is_risen t.prices (standing_at t i))) where
  within : i < length t.standings
  within = let e = con.standings_sized in omega arith

  pub restood : Consistent carriers jobs ceiling (with_standing i s n t)
  restood = record {
    limits = con.limits;
    prices_sized = con.prices_sized;
    holders_sized = con.holders_sized;
    standings_sized = length-set t.standings i s ∙ con.standings_sized;
    sound = λ k. each_stands (λ _ q. StandingSound jobs ceiling q) t i s n within good k (con.sound k);
    matched = λ k j. each_stands (λ a q. is_holder a (holder_at t j) ≡ holds_job j q) t i s n within
        (con.matched i j ∙ holds_none j (standing_at t i) was ∙ sym (holds_none j s is)) k (con.matched k j);
    unheld = con.unheld;
    low_prices = con.low_prices;
    raised = let b = con.raised in omega (arith, same, b);
    balanced = let c = count_set is_bidding t.standings i s Out within in let b = con.balanced in omega (arith, same, bal, c, b);
    outs_stay = let c = count_set is_out t.standings i s Out within in let b = con.outs_stay in omega (arith, left, c, b);
    few_stales = few;
  }
    where
      few : n.stales + count_by (is_risen t.prices) (set t.standings i s) ≤ (carriers - 1) * n.awards
      few =
          let c = count_set (is_risen t.prices) t.standings i s Out within in
          let b = con.few_stales in
          subst (λ a. n.stales + count_by (is_risen t.prices) (set t.standings i s) ≤ (carriers - 1) * a) (sym same) (omega (arith, rise, c, b))
