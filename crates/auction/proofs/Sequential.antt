-- A bid that no award came between is settled as in the sequential auction: prices move by awards alone, so all that it saw costs what it did when it was seen.
use Rattle.std.proofs.Common.{◌≡◌, ℕ, ◌+◌, ◌<◌, ◌≤◌, ◌⊎◌, Bool, true, false, cond, eqb, ltb, leb, List, [], ◌∷◌, ◌++◌, length, get_or, take, drop, pos, ◌-ℤ◌, ◌≤ℤ◌, is_ok, Some, None, Ok, Err, Option, Result, sym, refl, ap, ◌∙◌, subst, arith}
use lib.Signed.{lt_z}
use borrow.Author.Differences.{up, down, lt-true, lt-false, below_in, at_most_in}
use Rattle.std.specs.List.{AllByRecursion}
use Rattle.std.proofs.ByRecursion.{All-weaker}
use Rattle.std.proofs.lemmas.Bool.{both_ways, cond_both, ltb-true, leb-true, or_parts, false≢true}
use Rattle.std.proofs.lemmas.List.{take_all}
use Rattle.refusals.specs.declared.Refusal.{Refusal}
use Rattle.sources.specs.Meaning.{Meaning, Sound, row_of}
use Rattle.auction.specs.declared.bidding.Act.{Act}
use Rattle.auction.specs.declared.bidding.Act.TheVariants.{Summon, Look, Settle}
use Rattle.auction.specs.declared.bidding.Best.{Best}
use Rattle.auction.specs.declared.bidding.Bid.{Bid}
use Rattle.auction.specs.declared.bidding.Counts.{Counts}
use Rattle.auction.specs.declared.bidding.Standing.{Standing}
use Rattle.auction.specs.declared.bidding.Standing.TheVariants.{Waiting, Bidding, Out}
use Rattle.auction.specs.declared.bidding.Verdict.{Verdict}
use Rattle.auction.specs.declared.bidding.Verdict.TheVariants.{Out as GoesOut, Stale, Awarded}
use Rattle.auction.specs.declared.calls.Call.{Call}
use Rattle.auction.specs.Standings.{is_bidding, BidSound, StandingSound}
use Rattle.auction.specs.Tally.{Tally, price_at, standing_at}
use Rattle.auction.specs.Bids.{natural, beats, offer, judged_best, best_worth, looked_on}
use Rattle.auction.specs.Looks.{net_at, nets_at, Gathered, BestOf}
use Rattle.auction.specs.Rules.{looked_all, bid_after, bid_at, if_accepted, with_standing, counted, counted_out, counted_stale, bids, called, carried_out, verdict_in, verdict_from, settle_answer, settled}
use Rattle.auction.specs.Calls.{tally_by, tally_from, is_start, has_start}
use Rattle.auction.specs.Sequential.{Sequential, SettlesAlone}
use Rattle.auction.proofs.Nets.{natural-up, sides, net_is, beats-false}
use Rattle.auction.proofs.Weighed.{folded_looked}
use Rattle.auction.proofs.Gathering.{folded_gathers}
use Rattle.auction.proofs.Finding.{taken_on}
use Rattle.auction.proofs.Standings.{each_stands}
use Rattle.auction.proofs.Keeping.{settle_takes, settle_stands}
use Rattle.auction.proofs.Invariant.{StandingFits, Invariant}
use Rattle.auction.proofs.InvariantKept.{call_keeps, settle_keeps}
use Rattle.auction.proofs.CallsKeep.{Holds, call_holds, invariant_after}

pub counted_awards : (act : Act) (n : Counts) → (counted act n).awards ≡ n.awards
counted_awards Summon n = refl
counted_awards Look n = refl
counted_awards Settle n = refl

-- ---- nets at one list of prices

module _ (ps : List ℕ) where
  nets_at-append : (es fs : List (ℕ × ℕ)) → nets_at ps (es ++ fs) ≡ nets_at ps es ++ nets_at ps fs
  nets_at-append [] fs = refl
  nets_at-append (e ∷ es) fs = go (nets_at-append es fs) (eqb e.1 0)
    where
      go : nets_at ps (es ++ fs) ≡ nets_at ps es ++ nets_at ps fs → (t : Bool) →
          cond t (nets_at ps (es ++ fs)) (net_at ps e ∷ nets_at ps (es ++ fs)) ≡ cond t (nets_at ps es) (net_at ps e ∷ nets_at ps es) ++ nets_at ps fs
      go rest true = rest
      go rest false = ap (λ z. net_at ps e ∷ z) rest

  -- Each net is the worth less the price.
  abbrev Priced : Best → Type 0
  Priced z = z.net ≡ pos z.worth -ℤ pos (get_or ps z.job 0)

  nets_priced : (es : List (ℕ × ℕ)) → AllByRecursion Priced (nets_at ps es)
  nets_priced [] = tt
  nets_priced (e ∷ es) = cond_both (eqb e.1 0) _ _ (AllByRecursion Priced) (λ _. nets_priced es) (λ _. (refl, nets_priced es))

  look_gathers : (row : List (ℕ × ℕ)) (lanes : ℕ) (b : Bid) → b.looked ≤ length row → Gathered 0 b.runner_up (nets_at ps (take b.looked row)) b.best →
      Gathered 0 (looked_on lanes ps row b).runner_up (nets_at ps (take (looked_on lanes ps row b).looked row)) (looked_on lanes ps row b).best
  look_gathers row lanes b l g =
      let es = take lanes (drop b.looked row) in
      let new = looked_on lanes ps row b in
      subst (λ z. Gathered 0 new.runner_up z new.best)
      (sym (nets_at-append (take b.looked row) es) ∙ ap (nets_at ps) (sym (taken_on row b.looked lanes l) ∙ ap (λ n. take n row) (sym (folded_looked ps es b))))
      (folded_gathers ps 0 es b (nets_at ps (take b.looked row)) g)

in_midst : {X : Type 0} (P : X → Type 0) (xs ys : List X) (x : X) → AllByRecursion P (xs ++ x ∷ ys) → P x
in_midst P [] ys x h = h.0
in_midst P (y ∷ xs) ys x h = in_midst P xs ys x h.1

put_midst : {X : Type 0} (P : X → Type 0) (xs ys : List X) (x : X) → P x → AllByRecursion P (xs ++ ys) → AllByRecursion P (xs ++ x ∷ ys)
put_midst P [] ys x p h = (p, h)
put_midst P (y ∷ xs) ys x p h = (h.0, put_midst P xs ys x p h.1)

-- ---- a bid that has seen its whole row at the prices now

module _ (t : Tally) (row : List (ℕ × ℕ)) (jobs ceiling r : ℕ) (some : 1 ≤ t.step) where
  -- Where the best net is not above 0, none is.
  none_gains : (x : Best) → lt_z (pos 0) x.net ≡ false → BestOf 0 r (nets_at t.prices row) x → AllByRecursion (λ z. z.net ≤ℤ pos 0) (nets_at t.prices row)
  none_gains x low g =
      let a = lt-false (pos 0) x.net low in
      subst (AllByRecursion (λ z. z.net ≤ℤ pos 0)) (sym g.among)
      (put_midst (λ z. z.net ≤ℤ pos 0) g.before g.after x (at_most_in x.net (pos 0) (omega (arith, a)))
      (All-weaker (λ z. beats z x ≡ false) (λ z. z.net ≤ℤ pos 0) (λ z h. let w = beats-false z x h in at_most_in z.net (pos 0) (omega (arith, a, w))) (g.before ++ g.after) g.unbeaten))

  priced : (x : Best) → BestOf 0 r (nets_at t.prices row) x → x.net ≡ pos x.worth -ℤ pos (price_at t x.job)
  priced x g = in_midst (Priced t.prices) g.before g.after x (subst (AllByRecursion (Priced t.prices)) g.among (nets_priced t.prices row))

  judged_so : (o : Option Best) → Gathered 0 r (nets_at t.prices row) o → BidSound jobs ceiling r o → Sequential t row (judged_best t.step t.prices t.holders r o)
  judged_so None g s = subst (AllByRecursion (λ z. z.net ≤ℤ pos 0)) (sym g.0) tt
  judged_so (Some x) g s =
      cond_both {A = Verdict} (lt_z (pos 0) x.net) _ _ (Sequential t row)
      (λ above. cond_both {A = Verdict} (leb (offer t.step r x) (price_at t x.job)) _ _ (Sequential t row)
      (λ low. let c = leb-true (offer t.step r x) (price_at t x.job) low in let p = lt-true (pos 0) x.net above in absurd (omega (arith, c, p, worth_is, u, n, z, some)))
      (λ _. let p = lt-true (pos 0) x.net above in record {
        best = x;
        runner_up = r;
        chosen = g;
        gains = below_in (pos 0) x.net p;
        job_is = refl;
        price_is = omega (arith, p, worth_is, u, n, z);
        displaces = refl;
      }))
      (λ low. none_gains x low g)
    where
      u : r ≤ natural x.net
      u = s.low_runner

      n : natural x.net ≡ up x.net
      n = natural-up x.net

      z : (up x.net ≡ 0) ⊎ (down x.net ≡ 0)
      z = sides x.net

      worth_is : up x.net + price_at t x.job ≡ x.worth + down x.net
      worth_is = subst (λ y. up y + price_at t x.job ≡ x.worth + down y) (sym (priced x g)) (net_is x.worth (price_at t x.job))

-- The bid that settles has looked at the whole row.
settle_looked : (lanes : ℕ) (ps : List ℕ) (row : List (ℕ × ℕ)) (s : Standing) (b : Bid) → bid_after lanes ps row s Settle ≡ Ok b → length row ≤ b.looked
settle_looked lanes ps row (Bidding a) b e =
    cond_both {A = Result Bid Refusal} (looked_all row a) _ _ (λ r. r ≡ Ok b → length row ≤ b.looked)
    (λ q h. let same : a ≡ b = cc in subst (λ (c : Bid). length row ≤ c.looked) same (leb-true (length row) a.looked q)) (λ _ h. absurd (false≢true cc)) e
settle_looked lanes ps row _ b e = absurd (false≢true cc)

-- What the open bid of carrier k has seen, it has seen at these prices.
abbrev pub SeenAt : Meaning → ℕ → List ℕ → Standing → Type 0
SeenAt m k ps (Bidding b) = Gathered 0 b.runner_up (nets_at ps (take b.looked (row_of m k))) b.best
SeenAt m k ps _ = Unit {0}

pub idle_seen : (m : Meaning) (k : ℕ) (ps : List ℕ) (s : Standing) → is_bidding s ≡ false → SeenAt m k ps s
idle_seen m k ps (Bidding b) e = absurd (both_ways true e refl)
idle_seen m k ps _ e = tt

module _ (m : Meaning) (sound : Sound m) (n i : ℕ) where
  -- There are n awards at least; and while there are n, carrier i's bid has seen the prices now.
  pub record Steady (t : Tally) : Type 0 where
    pub fewest : n ≤ t.counts.awards
    pub seen : t.counts.awards ≡ n → SeenAt m i t.prices (standing_at t i)

  with_standing-steady : (t : Tally) → Invariant m t → Steady t → (k : ℕ) → k < m.carriers → (s : Standing) (c : Counts) → c.awards ≡ t.counts.awards →
      (k ≡ i → t.counts.awards ≡ n → SeenAt m k t.prices s) → Steady (with_standing k s c t)
  with_standing-steady t inv f k l s c same new = record {
    fewest = omega (arith, same, f.fewest);
    seen = λ e. let now = sym same ∙ e in
        each_stands (λ a q. a ≡ i → SeenAt m a t.prices q) t k s c (let z = inv.consistent.standings_sized in omega arith) (λ q. new q now) i (λ _. f.seen now) refl;
  }

  module _ (t : Tally) (inv : Invariant m t) (f : Steady t) (k : ℕ) (l : k < m.carriers) where
    abbrev SeenBy : Result Bid Refusal → Type 0
    SeenBy (Ok b) = k ≡ i → t.counts.awards ≡ n → SeenAt m k t.prices (Bidding b)
    SeenBy (Err e) = Unit {0}

    seen_here : (b : Bid) → standing_at t k ≡ Bidding b → SeenBy (Ok b)
    seen_here b e q now = subst (SeenAt m k t.prices) e (subst (λ a. SeenAt m a t.prices (standing_at t a)) (sym q) (f.seen now))

    bid_sees : (act : Act) (s : Standing) → standing_at t k ≡ s → SeenBy (bid_after t.lanes t.prices (row_of m k) s act)
    bid_sees Summon Waiting e = λ q now. (refl, refl)
    bid_sees Look (Bidding b) e =
        cond_both {A = Result Bid Refusal} (looked_all (row_of m k) b) _ _ SeenBy (λ _. tt)
        (λ _ q now. look_gathers t.prices (row_of m k) t.lanes b (subst (StandingFits t.step t.prices (row_of m k)) e (inv.fits k l)).0 (seen_here b e q now))
    bid_sees Settle (Bidding b) e = cond_both {A = Result Bid Refusal} (looked_all (row_of m k) b) _ _ SeenBy (λ _. seen_here b e) (λ _. tt)
    bid_sees _ _ e = tt

    call_from : (act : Act) (r : Result Bid Refusal) → SeenBy r → Steady (if_accepted r (bids act k) t)
    call_from act (Ok b) new = with_standing-steady t inv f k l (Bidding b) (counted act t.counts) (counted_awards act t.counts) new
    call_from act (Err e) new = f

    ended-steady : (w : ℕ) (v : Verdict) → Steady (carried_out k w v t)
    ended-steady w GoesOut = with_standing-steady t inv f k l Out (counted_out t.counts) refl (λ _ _. tt)
    ended-steady w Stale = with_standing-steady t inv f k l Waiting (counted_stale t.counts) refl (λ _ _. tt)
    ended-steady w (Awarded a) = record { fewest = omega (arith, f.fewest); seen = λ e. absurd (omega (arith, f.fewest, e)) }

  pub call_steady : (t : Tally) → Invariant m t → Steady t → (k : ℕ) (act : Act) → Steady (called m k act t)
  unfolding bid_at
  call_steady t inv f k act =
      cond_both {A = Result Bid Refusal} (ltb k m.carriers) _ _ (λ r. Steady (if_accepted r (bids act k) t))
      (λ q. let l = ltb-true k m.carriers q in call_from t inv f k l act _ (bid_sees t inv f k l act (standing_at t k) refl)) (λ _. f)

  settle_steady : (t : Tally) → Invariant m t → Steady t → (k : ℕ) → Steady (settled m k t)
  settle_steady t inv f k = settle_takes m t k Steady f (λ l b e _. ended-steady t inv f k l (best_worth b.best) (verdict_in t b))

  abbrev Both : Tally → Type 0
  Both t = Invariant m t × Steady t

  calls_steady : (o : Option Tally) (calls : List Call) → has_start m calls ≡ false → Holds Both o → Holds Both (tally_from m o calls)
  unfolding tally_from
  calls_steady o [] none h = h
  calls_steady o (c ∷ calls) none h =
      let parts = or_parts (is_start m c) (has_start m calls) none in
      calls_steady (tally_by m o c) calls parts.1
      (call_holds m Both (λ t k act p. (call_keeps m sound t p.0 k act, call_steady t p.0 p.1 k act)) (λ t k p. (settle_keeps m sound t p.0 k, settle_steady t p.0 p.1 k)) o c
      (λ step lanes e ok. absurd (both_ways (is_start m c) parts.0 (ap (is_start m) e ∙ ap is_ok ok))) h)

  pub settles : (t : Tally) → Invariant m t → SeenAt m i t.prices (standing_at t i) → (v : Verdict) → settle_answer i m (Some t) ≡ Ok v → Sequential t (row_of m i) v
  unfolding bid_at
  settles t inv seen v =
      cond_both {A = Result Bid Refusal} (ltb i m.carriers) _ _ (λ r. verdict_from t r ≡ Ok v → Sequential t (row_of m i) v) (λ _. ends _ refl) (λ _ e. absurd (false≢true cc))
    where
      ends : (r : Result Bid Refusal) → bid_after t.lanes t.prices (row_of m i) (standing_at t i) Settle ≡ r → verdict_from t r ≡ Ok v → Sequential t (row_of m i) v
      ends (Ok b) e q =
          let stood = settle_stands t.lanes t.prices (row_of m i) (standing_at t i) b e in
          let whole = take_all b.looked (row_of m i) (settle_looked t.lanes t.prices (row_of m i) (standing_at t i) b e) in
          let is : verdict_in t b ≡ v = cc in
          subst (Sequential t (row_of m i)) is
          (judged_so t (row_of m i) m.jobs m.ceiling b.runner_up inv.consistent.limits.some_step b.best
          (subst (λ es. Gathered 0 b.runner_up (nets_at t.prices es) b.best) whole (subst (SeenAt m i t.prices) stood seen))
          (subst (StandingSound m.jobs m.ceiling) stood (inv.consistent.sound i)))
      ends (Err x) e q = absurd (false≢true cc)

pub settles_alone : (m : Meaning) → Sound m → SettlesAlone m
settles_alone m sound before behind i t t' v was idle none now same =
    let begun : Both m sound t.counts.awards i t = (invariant_after m sound before t was, record { fewest = omega arith; seen = λ _. idle_seen m i t.prices (standing_at t i) idle }) in
    let after : Both m sound t.counts.awards i t' = subst (Holds (Both m sound t.counts.awards i)) now (calls_steady m sound t.counts.awards i (Some t) behind none begun) in
    settles m sound t.counts.awards i t' after.0 (after.1.seen same) v
