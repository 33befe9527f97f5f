-- Prices only rise, so what is said of each standing and its row survives an award; and the winner is within a step of its best.
use Rattle.std.proofs.Common.{◌≡◌, ℕ, ◌+◌, ◌<◌, ◌≤◌, false, List, length, get_or, set, pos, Some, None, Option, sym, refl, ap, ◌∙◌, ⊎_elim, arith}
use mathlib.Core.Logic.{∥∥₁_map}
use borrow.Author.Differences.{down, le_out}
use Rattle.std.proofs.lemmas.Bool.{cases_eq, both_ways}
use Rattle.sources.specs.Meaning.{Meaning, Sound, row_of, worth_in}
use Rattle.auction.specs.declared.bidding.Best.{Best}
use Rattle.auction.specs.declared.bidding.Bid.{Bid}
use Rattle.auction.specs.declared.bidding.Held.{Held}
use Rattle.auction.specs.declared.bidding.Standing.{Standing}
use Rattle.auction.specs.declared.bidding.Standing.TheVariants.{Bidding, Served, Out}
use Rattle.auction.specs.declared.bidding.Verdict.TheVariants.{Awarded}
use Rattle.auction.specs.Standings.{BestSound}
use Rattle.auction.specs.Tally.{Tally, price_at, holder_at, standing_at, is_holder}
use Rattle.auction.specs.Bids.{offer}
use Rattle.auction.specs.Rules.{carried_out}
use Rattle.sources.proofs.Reading.{row_rising}
use Rattle.auction.proofs.Rows.{job_in, worth_on, listed, by_entries}
use Rattle.auction.proofs.Nets.{natural-up}
use Rattle.auction.proofs.Matching.{holder_is, holder_of}
use Rattle.auction.proofs.Finding.{rise_found}
use Rattle.auction.proofs.Awards.{price_here, price_there, rises, each_after}
use Rattle.auction.proofs.Invariant.{BestFits, BidFits, HeldFits, StandingFits, Fits, Invariant}

bid_rise : (ps qs : List ℕ) → ((k : ℕ) → get_or ps k 0 ≤ get_or qs k 0) → (row : List (ℕ × ℕ)) (n r : ℕ) (o : Option Best) → BidFits ps row n r o → BidFits qs row n r o
bid_rise ps qs rise row n r None g = g
bid_rise ps qs rise row n r (Some x) g =
    let a = rise x.job in let f = g.seen in
    record {
      worth_is = g.worth_is;
      worthy = g.worthy;
      seen = omega arith;
      others = λ k h ne. let o = g.others k h ne in let b = rise (job_in row k) in omega arith;
    }

-- Where the price of the job that a served carrier holds is as it was.
fits_rise : (step : ℕ) (ps qs : List ℕ) → ((k : ℕ) → get_or ps k 0 ≤ get_or qs k 0) → (row : List (ℕ × ℕ)) (s : Standing) →
    ((h : Held) → s ≡ Served h → get_or qs h.job 0 ≡ get_or ps h.job 0) → StandingFits step ps row s → StandingFits step qs row s
fits_rise step ps qs rise row (Bidding b) same f = (f.0, bid_rise ps qs rise row b.looked b.runner_up b.best f.1, ∥∥₁_map f.2 (rise_found ps qs rise row b))
fits_rise step ps qs rise row (Served h) same f =
    let e = same h refl in let w = f.of_none in
    record { worth_is = f.worth_is; worthy = f.worthy; of_none = omega arith; of_best = λ j. let a = f.of_best j in let b = rise j in omega arith }
fits_rise step ps qs rise row Out same f = λ j. let a = f j in let b = rise j in omega arith
fits_rise step ps qs rise row _ same f = f

module _ (m : Meaning) (sound : Sound m) (t : Tally) (inv : Invariant m t) (i : ℕ) (l : i < m.carriers) (b : Bid) (bidding : standing_at t i ≡ Bidding b)
    (all : length (row_of m i) ≤ b.looked) (x : Best) (good : BestSound m.jobs m.ceiling b.runner_up x)
    (g : BestFits t.prices (row_of m i) b.looked b.runner_up x) (flat : down x.net ≡ 0) (above : price_at t x.job < offer t.step b.runner_up x) where
  abbrev r : ℕ
  r = b.runner_up

  abbrev c : ℕ
  c = offer t.step r x

  abbrev qs : List ℕ
  qs = set t.prices x.job c

  here : get_or qs x.job 0 ≡ c
  here = price_here m.carriers m.jobs m.ceiling t inv.consistent i l b bidding r x good above

  there : (k : ℕ) → (k ≡ x.job → ⊥) → get_or qs k 0 ≡ price_at t k
  there k ne = price_there m.carriers m.jobs m.ceiling t inv.consistent i l b bidding r x good above k ne

  runner_low : r ≤ x.worth
  runner_low = let a = good.low_runner in let n = natural-up x.net in let d = le_out x.net (pos x.worth) good.low_net in omega (arith, a, n, d, flat)

  won : HeldFits t.step qs (row_of m i) (record { job = x.job; worth = x.worth })
  won = record {
    worth_is = g.worth_is;
    worthy = g.worthy;
    of_none = let p = here in omega (arith, p);
    of_best = by_entries (λ a v. v + get_or qs x.job 0 ≤ x.worth + t.step + get_or qs a 0) (row_of m i) (λ a. let p = here in omega (arith, p)) each;
  }
    where
      each : (k : ℕ) → k < length (row_of m i) → worth_on (row_of m i) k + get_or qs x.job 0 ≤ x.worth + t.step + get_or qs (job_in (row_of m i) k) 0
      each k h =
          let p = here in let low = runner_low in
          ⊎_elim
          (λ e. let v : worth_on (row_of m i) k ≡ x.worth = sym (listed 0 (row_of m i) (row_rising m sound i) k h) ∙ ap (worth_in (row_of m i)) e ∙ sym g.worth_is in
          let q : get_or qs (job_in (row_of m i) k) 0 ≡ get_or qs x.job 0 = ap (λ a. get_or qs a 0) e in omega (arith, v, q))
          (λ ne. let a = g.others k (omega (arith, h, all)) ne in let d = there (job_in (row_of m i) k) ne in omega (arith, a, d, p, low))
          (cases_eq (job_in (row_of m i) k) x.job)

  -- Who is served and is not the former holder has another job.
  elsewhere : (k : ℕ) (h : Held) → is_holder k (holder_at t x.job) ≡ false → standing_at t k ≡ Served h → h.job ≡ x.job → ⊥
  elsewhere k h nf e q =
      both_ways (is_holder k (holder_at t x.job)) nf
      (holder_is k (holder_at t x.job) (ap (holder_at t) (sym q) ∙ holder_of m.carriers m.jobs m.ceiling t inv.consistent k h e))

  pub awarded_fits : Fits m (carried_out i x.worth (Awarded (record { job = x.job; price = c; displaced = holder_at t x.job })) t)
  awarded_fits k =
      each_after m.carriers m.jobs m.ceiling t inv.consistent i l b bidding r x good above
      (λ a s. a < m.carriers → StandingFits t.step qs (row_of m a) s) (λ _. won) (λ _ _ _. tt) k
      (λ nf q. fits_rise t.step t.prices qs (rises m.carriers m.jobs m.ceiling t inv.consistent i l b bidding r x good above) (row_of m k) (standing_at t k)
      (λ h e. there h.job (elsewhere k h nf e)) (inv.fits k q))
