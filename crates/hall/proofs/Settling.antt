-- A settled bid: the verdict, what its end leaves in the tables, and the tally after.
use Rattle.std.proofs.Common.{◌≡◌, ℕ, ◌^◌, ◌<◌, ◌≤◌, cond, leb, ◌≢◌, List, length, get_or, take, set, pos, Some, None, Ok, Option, sym, refl, ap, ◌∙◌, subst, arith}
use lib.Signed.{lt_z}
use Rattle.std.proofs.lemmas.List.{length-set, get_or-take, set_comm, set-get_or}
use Rattle.std.proofs.lemmas.Bool.{cond_both, both_ways}
use Rattle.sources.specs.Meaning.{Meaning, row_of}
use Rattle.auction.specs.declared.bidding.Best.{Best}
use Rattle.auction.specs.declared.bidding.Bid.{Bid}
use Rattle.auction.specs.declared.bidding.Award.{Award}
use Rattle.auction.specs.declared.bidding.Counts.{Counts}
use Rattle.auction.specs.declared.bidding.Act.TheVariants.{Settle}
use Rattle.auction.specs.declared.bidding.Standing.{Standing}
use Rattle.auction.specs.declared.bidding.Standing.TheVariants.{Waiting, Bidding, Served, Out}
use Rattle.auction.specs.declared.bidding.Verdict.{Verdict}
use Rattle.auction.specs.declared.bidding.Verdict.TheVariants.{Out as GoesOut, Stale, Awarded}
use Rattle.auction.specs.Standings.{holds_job, BidSound, StandingSound}
use Rattle.auction.specs.Tally.{holder_at, standing_at, is_holder}
use Rattle.auction.specs.Bids.{offer, judged_best, judged, best_worth}
use Rattle.auction.specs.Consistent.{Consistent}
use Rattle.auction.specs.Rules.{bid_at, if_accepted, with_standing, bids, called, freed, carried_out, verdict_in, verdict_from, ended, settle_answer, settle_tally}
use Rattle.auction.proofs.Matching.{holder_is, length-freed, holder_known}
use Rattle.auction.proofs.Keeping.{ended_consistent, settle_stands}
use Rattle.hall.specs.declared.books.Books.{Books}
use Rattle.hall.specs.BooksSound.{BooksSound, tally_held}
use Rattle.hall.specs.InBooks.{NotedOf, tally_in}
use Rattle.hall.specs.Steps.{standing_ended, counts_ended}
use Rattle.hall.proofs.Keeps.{sound_out, sound_by}
use Rattle.hall.proofs.Tables.{same_tally, take_set_any, take-freed, consistent_in, few_places, standing_in, with_standing_in}
use Rattle.hall.proofs.Calling.{bid_known, bid_given}

-- ---- the verdict

-- A bid below a ceiling and a number of jobs is below larger ones.
pub wider : (jobs ceiling jobs' ceiling' r : ℕ) (o : Option Best) → jobs ≤ jobs' → ceiling ≤ ceiling' → BidSound jobs ceiling r o → BidSound jobs' ceiling' r o
wider jobs ceiling jobs' ceiling' r None j c k = k
wider jobs ceiling jobs' ceiling' r (Some x) j c k =
    record { known = omega (arith, k.known); low_worth = omega (arith, k.low_worth); low_net = k.low_net; low_runner = k.low_runner }

-- The verdict by the tables is the verdict by the tally's lists.
pub judged_cut : (jobs ceiling step : ℕ) (prices : List ℕ) (holders : List (Option ℕ)) (x : Bid) → BidSound jobs ceiling x.runner_up x.best →
    judged step prices holders x ≡ judged step (take jobs prices) (take jobs holders) x
judged_cut jobs ceiling step prices holders x h = each x.best h
  where
    each : (o : Option Best) → BidSound jobs ceiling x.runner_up o →
        judged_best step prices holders x.runner_up o ≡ judged_best step (take jobs prices) (take jobs holders) x.runner_up o
    each None k = refl
    each (Some y) k =
        ap (λ p. verdict y p (get_or holders y.job None)) (sym (get_or-take jobs prices y.job 0 k.known))
        ∙ ap (verdict y (get_or (take jobs prices) y.job 0)) (sym (get_or-take jobs holders y.job None k.known))
      where
        verdict : Best → ℕ → Option ℕ → Verdict
        verdict z p o = cond (lt_z (pos 0) z.net)
            (cond (leb (offer step x.runner_up z) p) Stale (Awarded (record { job = z.job; price = offer step x.runner_up z; displaced = o }))) GoesOut

-- The job of an award is known, and the displaced carrier is its holder.
won : (jobs ceiling step r : ℕ) (prices : List ℕ) (holders : List (Option ℕ)) (o : Option Best) (a : Award) → BidSound jobs ceiling r o →
    judged_best step prices holders r o ≡ Awarded a → (a.job < jobs) × (get_or holders a.job None ≡ a.displaced)
won jobs ceiling step r prices holders None a k e = let z : ◌≡◌ {A = ℕ} 0 1 = cc in absurd (omega arith)
won jobs ceiling step r prices holders (Some x) a k e =
    cond_both {A = Verdict} (lt_z (pos 0) x.net) _ _ (λ v. v ≡ Awarded a → (a.job < jobs) × (get_or holders a.job None ≡ a.displaced))
    (λ _. cond_both {A = Verdict} (leb (offer step r x) (get_or prices x.job 0)) _ _ (λ v. v ≡ Awarded a → (a.job < jobs) × (get_or holders a.job None ≡ a.displaced))
    (λ _ q. let z : ◌≡◌ {A = ℕ} 0 1 = cc in absurd (omega arith))
    (λ _ q. let s : record { job = x.job; price = offer step r x; displaced = get_or holders x.job None } ≡ a = cc in
    subst (λ (w : Award). (w.job < jobs) × (get_or holders w.job None ≡ w.displaced)) s (k.known, refl)))
    (λ _ q. let z : ◌≡◌ {A = ℕ} 0 1 = cc in absurd (omega arith))
    e

-- ---- a bid that ends, over the books

-- Of two carriers one is freed and the other stands anew: the order does not matter.
freed_set : (ss : List Standing) (o : Option ℕ) (i : ℕ) (s : Standing) → ((k : ℕ) → o ≡ Some k → i ≢ k) → freed (set ss i s) o ≡ set (freed ss o) i s
freed_set ss None i s other = refl
freed_set ss (Some k) i s other = set_comm ss i k s Waiting (other k refl)

module _ (b : Books) (i : ℕ) (x : Bid) (known : i < b.noted.carriers) (bidding : standing_at (tally_in b) i ≡ Bidding x) where
  abbrev worth : ℕ
  worth = best_worth x.best

  sound_bid : BidSound b.noted.jobs b.noted.ceiling x.runner_up x.best
  sound_bid = subst (StandingSound b.noted.jobs b.noted.ceiling) bidding ((consistent_in b).sound i)

  pub ends_sound : BidSound 256 (2 ^ 36) x.runner_up x.best
  ends_sound = wider b.noted.jobs b.noted.ceiling 256 (2 ^ 36) x.runner_up x.best (consistent_in b).limits.few_jobs (consistent_in b).limits.low_ceiling sound_bid

  module _ (v : Verdict) (judged-is : v ≡ judged b.step b.prices b.holders x) where
    pub ends_ruled : v ≡ verdict_in (tally_in b) x
    ends_ruled = judged-is ∙ judged_cut b.noted.jobs b.noted.ceiling b.step b.prices b.holders x sound_bid

    ended_by : (w : Verdict) → v ≡ w → carried_out i worth w (tally_in b) ≡ ended i x (tally_in b)
    ended_by w e = ap (λ z. carried_out i worth z (tally_in b)) (sym e ∙ ends_ruled)

    consistent_after : Consistent b.noted.carriers b.noted.jobs b.noted.ceiling (ended i x (tally_in b))
    consistent_after = ended_consistent b.noted.carriers b.noted.jobs b.noted.ceiling (tally_in b) (consistent_in b) i known x bidding

    module _ (s : Standing) (n : Counts) (stood : s ≡ standing_ended worth v) (numbered : n ≡ counts_ended b.counts v) where
      -- Nothing is awarded.
      module _ (none : (a : Award) → v ≡ Awarded a → ⊥) where
        pub none_in : tally_held b.noted b.step b.lanes b.prices b.holders (set b.standings i s) n ≡ ended i x (tally_in b)
        none_in = with_standing_in b i s n ∙ each v refl
          where
            each : (w : Verdict) → v ≡ w → with_standing i s n (tally_in b) ≡ ended i x (tally_in b)
            each (Awarded a) e = absurd (none a e)
            each w e =
                ap (λ z. with_standing i z n (tally_in b)) (stood ∙ ap (standing_ended worth) e)
                ∙ ap (λ z. with_standing i (standing_ended worth w) z (tally_in b)) (numbered ∙ ap (counts_ended b.counts) e) ∙ ended_by w e

        pub none_keeps : BooksSound b.noted b.step b.lanes b.prices b.holders (set b.standings i s) n
        none_keeps =
            let k = sound_out b.sound in
            sound_by (ended i x (tally_in b)) k.prices_long k.holders_long (length-set b.standings i s ∙ k.standings_long) none_in consistent_after

      module _ (a : Award) (e : v ≡ Awarded a) where
        won_here : (a.job < b.noted.jobs) × (holder_at (tally_in b) a.job ≡ a.displaced)
        won_here = won b.noted.jobs b.noted.ceiling b.step x.runner_up (take b.noted.jobs b.prices) (take b.noted.jobs b.holders) x.best a sound_bid (sym ends_ruled ∙ e)

        pub job_known : a.job < 256
        job_known = omega (arith, won_here.0, (consistent_in b).limits.few_jobs)

        pub former_known : (k : ℕ) → a.displaced ≡ Some k → k < 128
        former_known k q = few_places b k (holder_known b.noted.carriers b.noted.jobs b.noted.ceiling (tally_in b) (consistent_in b) a.job k (won_here.1 ∙ q))

        -- Who bids holds no job.
        former_other : (k : ℕ) → a.displaced ≡ Some k → i ≢ k
        former_other k q p =
            both_ways (is_holder i (holder_at (tally_in b) a.job)) ((consistent_in b).matched i a.job ∙ ap (holds_job a.job) bidding)
            (holder_is i (holder_at (tally_in b) a.job) (won_here.1 ∙ q ∙ ap Some (sym p)))

        abbrev mine : Standing
        mine = Served (record { job = a.job; worth = worth })

        pub award_in : (ss : List Standing) → ss ≡ freed (set b.standings i s) a.displaced →
            tally_held b.noted b.step b.lanes (set b.prices a.job a.price) (set b.holders a.job (Some i)) ss n ≡ ended i x (tally_in b)
        award_in ss f =
            same_tally _ (carried_out i worth (Awarded a) (tally_in b)) refl refl
            (take_set_any b.noted.jobs b.prices a.job a.price)
            (take_set_any b.noted.jobs b.holders a.job (Some i))
            (ap (take b.noted.carriers)
            (f ∙ ap (λ z. freed (set b.standings i z) a.displaced) (stood ∙ ap (standing_ended worth) e) ∙ freed_set b.standings a.displaced i mine former_other)
            ∙ take_set_any b.noted.carriers (freed b.standings a.displaced) i mine
            ∙ ap (λ zs. set zs i mine) (take-freed b.noted.carriers b.standings a.displaced))
            (numbered ∙ ap (counts_ended b.counts) e) ∙ ended_by (Awarded a) e

        pub award_keeps : (ss : List Standing) → ss ≡ freed (set b.standings i s) a.displaced → BooksSound b.noted b.step b.lanes (set b.prices a.job a.price) (set b.holders a.job (Some i)) ss n
        award_keeps ss f =
            let k = sound_out b.sound in
            sound_by (ended i x (tally_in b)) (length-set b.prices a.job a.price ∙ k.prices_long) (length-set b.holders a.job (Some i) ∙ k.holders_long)
            (ap length f ∙ length-freed (set b.standings i s) a.displaced ∙ length-set b.standings i s ∙ k.standings_long) (award_in ss f) consistent_after

-- ---- settle, whole

module _ (m : Meaning) (i : ℕ) (x : Bid) (old new : Books) (noted : NotedOf m old) (same : new.noted ≡ old.noted) (answer : Ok x ≡ bid_at m i Settle (tally_in old))
    (tallied : tally_in new ≡ called m i Settle (tally_in old)) where
  stood : standing_at (tally_in old) i ≡ Bidding x
  stood =
      standing_in old i (bid_known m i Settle old noted x answer)
      ∙ settle_stands old.lanes (take old.noted.jobs old.prices) (row_of m i) (get_or old.standings i Waiting) x (sym (bid_given m i Settle old noted x answer))

  -- The bid is found, and nothing is changed yet.
  unchanged : bids Settle i x (tally_in old) ≡ tally_in old
  unchanged = same_tally (bids Settle i x (tally_in old)) (tally_in old) refl refl refl refl
      (ap (set (tally_in old).standings i) (sym stood) ∙ set-get_or (tally_in old).standings i Out) refl

  found : tally_in new ≡ tally_in old
  found = tallied ∙ ap (λ r. if_accepted r (bids Settle i) (tally_in old)) (sym answer) ∙ unchanged

  pub settles_known : i < new.noted.carriers
  settles_known = omega (arith, bid_known m i Settle old noted x answer, ap (λ h. h.carriers) same)

  pub settles_bidding : standing_at (tally_in new) i ≡ Bidding x
  settles_bidding = ap (λ t. standing_at t i) found ∙ stood

  pub settled_answer : (v : Verdict) → v ≡ verdict_in (tally_in new) x → Ok v ≡ settle_answer i m (Some (tally_in old))
  settled_answer v e = ap Ok (e ∙ ap (λ t. verdict_in t x) found) ∙ ap (verdict_from (tally_in old)) answer

  pub settled_tally : (last : Books) → tally_in last ≡ ended i x (tally_in new) → Some (tally_in last) ≡ settle_tally i m (Some (tally_in old))
  settled_tally last e = ap Some (e ∙ ap (ended i x) found) ∙ ap (λ r. Some (if_accepted r (ended i) (tally_in old))) answer
