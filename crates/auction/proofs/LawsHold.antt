-- The laws of the auction, from the invariant.
use Rattle.std.proofs.Common.{◌≡◌, ℕ, zero, suc, ◌+◌, ◌-◌, ◌*◌, ◌^◌, ◌<◌, ◌≤◌, Bool, true, false, cond, eqb, leb, List, [], ◌∷◌, map, length, get_or, pos, ◌-ℤ◌, ◌↔◌, ◌<ℤ◌, Some, None, sum_by, count_by, Option, sym, refl, ap, ◌∙◌, subst, ⊎_elim, mul-le-mul_left, arith}
use lib.Signed.{lt_z}
use borrow.Author.Differences.{up, down, same_in, lt-true, lt_out, le_out, below_in}
use Rattle.std.specs.List.{AllByRecursion}
use Rattle.std.proofs.Math.Nat.{le-mul_of_pos_right}
use Rattle.std.proofs.lemmas.Option.{none-some, same_Some}
use Rattle.std.proofs.lemmas.Bool.{cases_lt, cond_both, both_ways, leb-true, false≢true}
use Rattle.std.proofs.lemmas.List.{length-map, length-take, get_or-map, get_or-take, get_or_default, get_or_past}
use Rattle.std.proofs.lemmas.List.Sums.{sum_by-cons, count_by-le-length}
use Rattle.sources.specs.Meaning.{Meaning, Sound, row_of, worth_in, worth_of}
use Rattle.sources.specs.Layers.{scaled, revalued_row, times_of}
use Rattle.auction.specs.declared.bidding.Award.{Award}
use Rattle.auction.specs.declared.bidding.Best.{Best}
use Rattle.auction.specs.declared.bidding.Bid.{Bid}
use Rattle.auction.specs.declared.bidding.Verdict.{Verdict}
use Rattle.auction.specs.declared.bidding.Verdict.TheVariants.{Out as GoesOut, Stale, Awarded}
use Rattle.auction.specs.declared.bidding.Held.{Held}
use Rattle.auction.specs.declared.bidding.Standing.{Standing}
use Rattle.auction.specs.declared.bidding.Standing.TheVariants.{Bidding, Served, Out}
use Rattle.auction.specs.Standings.{is_bidding, is_served, ServedOrOut, job_served, worth_served, BestSound, BidSound, StandingSound}
use Rattle.auction.specs.Tally.{Tally, price_at, holder_at, standing_at}
use Rattle.auction.specs.Bids.{natural, offer, judged_best}
use Rattle.auction.specs.Rules.{verdict_in}
use Rattle.auction.specs.Looks.{net_at}
use Rattle.auction.specs.Found.{Found}
use Rattle.auction.specs.Laws.{Pairing, OpenBid, Slack, given_worth, worth_along, worth, pairing_of, served, Among, AuctionLaws}
use Rattle.auction.proofs.Rows.{job_in, worth_on}
use Rattle.auction.proofs.Matching.{served_within, holder_of, holder_served}
use Rattle.auction.proofs.Paid.{price_of, paid, paid_distinct, paid_covers}
use Rattle.auction.proofs.Nets.{sides, net_is, natural-up}
use Rattle.auction.proofs.Keeping.{few_awards}
use Rattle.auction.proofs.Invariant.{BidFits, StandingFits, Invariant}

-- ---- the pairing that the standings make

serves : (s : Standing) (j : ℕ) → job_served s ≡ Some j → (h : Held) × (s ≡ Served h) × (h.job ≡ j)
serves (Served h) j e = (h, refl, same_Some _ _ e)
serves _ j e = absurd (none-some _ e)

paired : (ss : List Standing) (i j : ℕ) → get_or (map job_served ss) i None ≡ Some j → (h : Held) × (get_or ss i Out ≡ Served h) × (h.job ≡ j)
paired [] i j e = absurd (none-some _ e)
paired (s ∷ ss) zero j e = serves s j e
paired (s ∷ ss) (suc i) j e = paired ss i j e

pairs : (ss : List Standing) (i : ℕ) (h : Held) → get_or ss i Out ≡ Served h → get_or (map job_served ss) i None ≡ Some h.job
pairs ss i h e = get_or-map job_served ss i Out None (served_within ss i h e) ∙ ap job_served e

-- ---- what it is worth, and what any other is

valued_one : (step : ℕ) (ps : List ℕ) (row : List (ℕ × ℕ)) (s : Standing) → StandingFits step ps row s → given_worth row (job_served s) ≡ worth_served s
valued_one step ps row (Served h) f = sym f.worth_is
valued_one step ps row _ f = refl

bound_one : (step : ℕ) (ps : List ℕ) (row : List (ℕ × ℕ)) (o : Option ℕ) (s : Standing) → StandingFits step ps row s → ((j : ℕ) → o ≡ Some j → ServedOrOut s) →
    given_worth row o + price_of ps (job_served s) ≤ worth_served s + step * cond (is_served s) 1 0 + price_of ps o
bound_one step ps row None (Served h) f d = let w = f.of_none in omega arith
bound_one step ps row None _ f d = omega arith
bound_one step ps row (Some j) (Served h) f d = let w = f.of_best j in omega arith
bound_one step ps row (Some j) Out f d = let w = f j in omega arith
bound_one step ps row (Some j) _ f d = absurd (d j refl)

module _ (step : ℕ) (ps : List ℕ) where
  abbrev AllFit : List (List (ℕ × ℕ)) → List Standing → Type 0
  AllFit rows ss = (i : ℕ) → i < length rows → StandingFits step ps (get_or rows i []) (get_or ss i Out)

  valued_along : (rows : List (List (ℕ × ℕ))) (ss : List Standing) → length ss ≡ length rows → AllFit rows ss →
      worth_along rows (map job_served ss) ≡ sum_by worth_served ss
  valued_along [] [] l f = refl
  valued_along [] (s ∷ ss) l f = absurd (omega arith)
  valued_along (row ∷ rows) [] l f = absurd (omega arith)
  valued_along (row ∷ rows) (s ∷ ss) l f =
      let one = valued_one step ps row s (f 0 (omega arith)) in
      let rest = valued_along rows ss (omega arith) (λ i h. f (suc i) (omega arith)) in
      let c = sum_by-cons worth_served s ss in
      omega (arith, one, rest, c)

  bound_along : (rows : List (List (ℕ × ℕ))) (ss : List Standing) (p : List (Option ℕ)) → length ss ≡ length rows → length p ≡ length rows → AllFit rows ss →
      ((i j : ℕ) → get_or p i None ≡ Some j → ServedOrOut (get_or ss i Out)) →
      worth_along rows p + paid ps (map job_served ss) ≤ sum_by worth_served ss + step * count_by is_served ss + paid ps p
  bound_along [] [] [] l k f d = omega arith
  bound_along [] [] (o ∷ p) l k f d = absurd (omega arith)
  bound_along [] (s ∷ ss) p l k f d = absurd (omega arith)
  bound_along (row ∷ rows) [] p l k f d = absurd (omega arith)
  bound_along (row ∷ rows) (s ∷ ss) [] l k f d = absurd (omega arith)
  bound_along (row ∷ rows) (s ∷ ss) (o ∷ p) l k f d =
      let one = bound_one step ps row o s (f 0 (omega arith)) (d 0) in
      let rest = bound_along rows ss p (omega arith) (omega arith) (λ i h. f (suc i) (omega arith)) (λ i. d (suc i)) in
      let a = sum_by-cons worth_served s ss in
      let b : count_by is_served (s ∷ ss) ≡ cond (is_served s) 1 0 + count_by is_served ss = sum_by-cons (λ x. cond (is_served x) 1 0) s ss in
      let c : step * count_by is_served (s ∷ ss) ≡ step * (cond (is_served s) 1 0 + count_by is_served ss) = ap (λ n. step * n) b in
      omega (arith, one, rest, a, c)

-- ---- a layer's worths are g times those below, where none was cut

row_times : (g c : ℕ) → c < 2 ^ 60 → (row : List (ℕ × ℕ)) → AllByRecursion (λ e. e.1 ≤ c) (revalued_row (scaled g) row) → (j : ℕ) → worth_in (revalued_row (scaled g) row) j ≡ g * worth_in row j
row_times g c low [] h j = omega arith
row_times g c low (e ∷ row) h j = go (row_times g c low row h.1 j) (eqb e.0 j)
  where
    go : worth_in (revalued_row (scaled g) row) j ≡ g * worth_in row j → (b : Bool) → cond b (scaled g e.1) (worth_in (revalued_row (scaled g) row) j) ≡ g * cond b e.1 (worth_in row j)
    go rest true = let a = h.0 in omega arith
    go rest false = rest

along_times : (g c : ℕ) → c < 2 ^ 60 → (rows : List (List (ℕ × ℕ))) → AllByRecursion (AllByRecursion (λ e. e.1 ≤ c)) (map (revalued_row (scaled g)) rows) → (p : List (Option ℕ)) →
    worth_along (map (revalued_row (scaled g)) rows) p ≡ g * worth_along rows p
along_times g c low [] h p = omega arith
along_times g c low (row ∷ rows) h [] = omega arith
along_times g c low (row ∷ rows) h (None ∷ p) = let rest = along_times g c low rows h.1 p in omega arith
along_times g c low (row ∷ rows) h (Some j ∷ p) =
    let rest = along_times g c low rows h.1 p in let one = row_times g c low row h.0 j in omega arith

worthy_times : (g c : ℕ) → c < 2 ^ 60 → (rows : List (List (ℕ × ℕ))) → AllByRecursion (AllByRecursion (λ e. e.1 ≤ c)) (map (revalued_row (scaled g)) rows) → (i j : ℕ) →
    worth_in (get_or (map (revalued_row (scaled g)) rows) i []) j ≡ g * worth_in (get_or rows i []) j
worthy_times g c low [] h i j = omega arith
worthy_times g c low (row ∷ rows) h zero j = row_times g c low row h.0 j
worthy_times g c low (row ∷ rows) h (suc i) j = worthy_times g c low rows h.1 i j

no_more : (g a b d : ℕ) → g * a ≤ g * b + d → d < g → a ≤ b
no_more g a b d h s = ⊎_elim (λ l. let k : g * suc b ≤ g * a = mul-le-mul_left g l in absurd (omega arith)) (λ l. l) (cases_lt b a)

-- ---- the laws

abbrev is_stale : Verdict → Bool
is_stale GoesOut = false
is_stale Stale = true
is_stale (Awarded a) = false

module _ (m : Meaning) (sound : Sound m) (t : Tally) (law : Invariant m t) where
  fits : AllFit t.step t.prices m.rows t.standings
  fits i l = law.fits i (let e = sound.counted in omega arith)

  sized : length t.standings ≡ length m.rows
  sized = law.consistent.standings_sized ∙ sym sound.counted

  own : Pairing m (pairing_of t)
  own = record {
    sized = length-map t.standings job_served ∙ law.consistent.standings_sized;
    worthy = λ i j e. let w = paired t.standings i j e in
        let l = served_within t.standings i w.0 w.1 in
        let f = subst (StandingFits t.step t.prices (row_of m i)) w.1 (law.fits i (let z = law.consistent.standings_sized in omega arith)) in
        let a = f.worthy in let b = f.worth_is in let q : worth_of m i w.0.job ≡ worth_of m i j = ap (worth_of m i) w.2 in omega (arith, a, b, q);
    apart = λ i k j p q. let v = paired t.standings i j p in let w = paired t.standings k j q in
        same_Some _ _ (sym (holder_of m.carriers m.jobs m.ceiling t law.consistent i v.0 v.1) ∙ ap (holder_at t) (v.2 ∙ sym w.2) ∙ holder_of m.carriers m.jobs m.ceiling t law.consistent k w.0 w.1);
  }

  valued : worth m (pairing_of t) ≡ sum_by worth_served t.standings
  valued = valued_along t.step t.prices m.rows t.standings sized fits

  held : (i j : ℕ) → (holder_at t j ≡ Some i) ↔ (get_or (pairing_of t) i None ≡ Some j)
  held i j = (
    λ e. let w = holder_served m.carriers m.jobs m.ceiling t law.consistent j i e in pairs t.standings i w.0 w.1 ∙ ap Some w.2,
    λ e. let w = paired t.standings i j e in ap (holder_at t) (sym w.2) ∙ holder_of m.carriers m.jobs m.ceiling t law.consistent i w.0 w.1,
  )

  cover : (j : ℕ) → 0 < price_at t j → (a : ℕ) × (get_or (pairing_of t) a None ≡ Some j)
  cover j l = go (holder_at t j) refl
    where
      go : (o : Option ℕ) → holder_at t j ≡ o → (a : ℕ) × (get_or (pairing_of t) a None ≡ Some j)
      go None e = let z = law.consistent.unheld j e in absurd (omega arith)
      go (Some i) e = (i, (held i j).0 e)

  rival : (p : List (Option ℕ)) → Pairing m p → Among t p → worth m p ≤ worth m (pairing_of t) + t.step * served t
  rival p pair among =
      let a = bound_along t.step t.prices m.rows t.standings p sized (pair.sized ∙ sym sound.counted) fits among in
      let b = paid_distinct p t.prices pair.apart in
      let c = paid_covers (pairing_of t) t.prices cover in
      let v = valued in
      omega (arith, a, b, c, v)

  exact : (below : Meaning) (g : ℕ) → m ≡ times_of g below → m.carriers * t.step < g →
      (p : List (Option ℕ)) → Pairing below p → Among t p → worth below p ≤ worth below (pairing_of t)
  exact below g e big p pair among =
      let r = rival p pair' among in
      let a = times p in let b = times (pairing_of t) in
      let s : t.step * served t ≤ t.step * m.carriers = mul-le-mul_left t.step few in
      no_more g (worth below p) (worth below (pairing_of t)) (t.step * served t) (omega (arith, r, a, b)) (omega (arith, s, big))
    where
      rows_are : m.rows ≡ map (revalued_row (scaled g)) below.rows
      rows_are = ap (λ q. q.rows) e

      cut : m.ceiling < 2 ^ 60
      cut = let l = law.consistent.limits.low_ceiling in omega arith

      capped : AllByRecursion (AllByRecursion (λ f. f.1 ≤ m.ceiling)) (map (revalued_row (scaled g)) below.rows)
      capped = subst (AllByRecursion (AllByRecursion (λ f. f.1 ≤ m.ceiling))) rows_are sound.within

      times : (q : List (Option ℕ)) → worth m q ≡ g * worth below q
      times q = ap (λ rs. worth_along rs q) rows_are ∙ along_times g m.ceiling cut below.rows capped q

      few : served t ≤ m.carriers
      few = let c = count_by-le-length is_served t.standings in let z = law.consistent.standings_sized in omega arith

      pair' : Pairing m p
      pair' = record {
        sized = pair.sized ∙ sym (ap (λ q. q.carriers) e);
        worthy = λ i j q. let a = pair.worthy i j q in
            let b : worth_of m i j ≡ g * worth_of below i j = ap (λ rs. worth_in (get_or rs i []) j) rows_are ∙ worthy_times g m.ceiling cut below.rows capped i j in
            let c = le-mul_of_pos_right g a in omega (arith, b, c, big);
        apart = pair.apart;
      }

  among : (i : ℕ) → (standing_at t i ≡ Out → ⊥) → i < m.carriers
  among i n = ⊎_elim (λ l. l) (λ l. absurd (n (get_or_past t.standings i Out (let z = law.consistent.standings_sized in omega (arith, z, l))))) (cases_lt i m.carriers)

  slack : (i : ℕ) (h : Held) → standing_at t i ≡ Served h → Slack m t i h
  slack i h e =
      let l = among i (λ o. both_ways (is_served (standing_at t i)) (ap is_served o) (ap is_served e)) in
      let f = subst (StandingFits t.step t.prices (row_of m i)) e (law.fits i l) in
      record { worth_is = f.worth_is; of_none = f.of_none; of_best = f.of_best }

  left_out : (i j : ℕ) → i < m.carriers → standing_at t i ≡ Out → worth_of m i j ≤ price_at t j
  left_out i j l e = subst (StandingFits t.step t.prices (row_of m i)) e (law.fits i l) j

  bid_sound : (i : ℕ) (b : Bid) (x : Best) → standing_at t i ≡ Bidding b → b.best ≡ Some x → BestSound m.jobs m.ceiling b.runner_up x
  bid_sound i b x e q = subst (BidSound m.jobs m.ceiling b.runner_up) q (subst (StandingSound m.jobs m.ceiling) e (law.consistent.sound i))

  -- The best of a stale bid costs more than when it was seen.
  risen : (i : ℕ) (b : Bid) (x : Best) → standing_at t i ≡ Bidding b → b.best ≡ Some x → verdict_in t b ≡ Stale → x.worth + down x.net < price_at t x.job + up x.net
  risen i b x e q v =
      cond_both {A = Verdict} (lt_z (pos 0) x.net) _ _ (λ w. w ≡ Stale → Risen)
      (λ above. cond_both {A = Verdict} (leb (offer t.step b.runner_up x) (price_at t x.job)) _ _ (λ w. w ≡ Stale → Risen)
      (λ low _. let a = leb-true (offer t.step b.runner_up x) (price_at t x.job) low in let p = lt-true (pos 0) x.net above in
      let u = (bid_sound i b x e q).low_runner in let y = natural-up x.net in let z = sides x.net in let st = law.consistent.limits.some_step in omega (arith, a, p, u, y, z, st))
      (λ _ c. absurd (stale_not _ refl c)))
      (λ _ c. absurd (stale_not _ refl c))
      (sym (ap (judged_best t.step t.prices t.holders b.runner_up) q) ∙ v)
    where
      Risen : Type 0
      Risen = x.worth + down x.net < price_at t x.job + up x.net

      stale_not : (w : Verdict) → is_stale w ≡ false → w ≡ Stale → ⊥
      stale_not w a c = both_ways (is_stale w) a (ap is_stale c)

  bid_is : (i : ℕ) (b : Bid) (x : Best) → standing_at t i ≡ Bidding b → b.best ≡ Some x → OpenBid m t i b x
  bid_is i b x e q =
      let l = among i (λ o. both_ways (is_bidding (standing_at t i)) (ap is_bidding o) (ap is_bidding e)) in
      let f = subst (BidFits t.prices (row_of m i) b.looked b.runner_up) q (subst (StandingFits t.step t.prices (row_of m i)) e (law.fits i l)).1 in
      let g = bid_sound i b x e q in
      let low = le_out x.net (pos x.worth) g.low_net in let z = sides x.net in record {
        seen = x.worth + down x.net - up x.net;
        worth_is = f.worth_is;
        net_is = same_in x.net (pos x.worth -ℤ pos (x.worth + down x.net - up x.net)) (let w = net_is x.worth (x.worth + down x.net - up x.net) in omega (arith, low, z, w));
        risen = omega (arith, f.seen);
        bid_is = λ above. let p = lt_out (pos 0) x.net above in let o = natural-up x.net in let u = g.low_runner in omega (arith, p, z, o, u, low);
        stale_why = λ v. let r = risen i b x e q v in omega (arith, r, low, z);
        conservative = λ y c ne.
            let h = length-take b.looked (row_of m i) in
            let l : c.0 < b.looked = omega (arith, c.1, h) in
            let there : get_or (row_of m i) c.0 (0, 0) ≡ y =
            get_or_default (row_of m i) c.0 (0, 0) y (omega (arith, c.1, h)) ∙ sym (get_or-take b.looked (row_of m i) c.0 y l) ∙ c.2 in
            subst (λ z. (z.0 ≡ x.job → ⊥) → offer t.step b.runner_up x ≤ offer t.step (natural (net_at t.prices z).net) x) there
            (λ n. let o = f.others c.0 l n in
            let u = natural-up (net_at t.prices (get_or (row_of m i) c.0 (0, 0))).net in
            let w = net_is (worth_on (row_of m i) c.0) (price_at t (job_in (row_of m i) c.0)) in
            let s = sides (net_at t.prices (get_or (row_of m i) c.0 (0, 0))).net in omega (arith, o, u, w, s)) ne;
      }

  found : (i : ℕ) (b : Bid) → standing_at t i ≡ Bidding b → ∥ Found t.prices (row_of m i) b ∥₁
  found i b e =
      let l = among i (λ o. both_ways (is_bidding (standing_at t i)) (ap is_bidding o) (ap is_bidding e)) in
      (subst (StandingFits t.step t.prices (row_of m i)) e (law.fits i l)).2

  paid_is : (i : ℕ) (b : Bid) (x : Best) (a : Award) → standing_at t i ≡ Bidding b → b.best ≡ Some x → verdict_in t b ≡ Awarded a →
      (pos 0 <ℤ x.net) × (a ≡ record { job = x.job; price = offer t.step b.runner_up x; displaced = holder_at t x.job })
  paid_is i b x a e q v =
      cond_both {A = Verdict} (lt_z (pos 0) x.net) _ _ (λ w. w ≡ Awarded a → Paid)
      (λ above. cond_both {A = Verdict} (leb (offer t.step b.runner_up x) (price_at t x.job)) _ _ (λ w. w ≡ Awarded a → Paid)
      (λ _ c. absurd (false≢true cc))
      (λ _ c. (below_in (pos 0) x.net (lt-true (pos 0) x.net above), sym cc)))
      (λ _ c. absurd (false≢true cc))
      (sym (ap (judged_best t.step t.prices t.holders b.runner_up) q) ∙ v)
    where
      Paid : Type 0
      Paid = (pos 0 <ℤ x.net) × (a ≡ record { job = x.job; price = offer t.step b.runner_up x; displaced = holder_at t x.job })

  pub lawful_laws : AuctionLaws m t
  lawful_laws = record {
    own = own;
    valued = valued;
    held = held;
    rival = rival;
    exact = exact;
    slack = slack;
    left_out = left_out;
    unsold = law.consistent.unheld;
    bid_is = bid_is;
    found = found;
    paid_is = paid_is;
    balance = law.consistent.balanced;
    few_awards = few_awards m.carriers m.jobs m.ceiling t law.consistent;
    few_stales = let e = law.consistent.few_stales in omega arith;
  }
