-- What a glance tells of the bid that it began with and the same entries: its best and its runner-up, where it tells of a best.
use Rattle.std.proofs.Common.{◌≡◌, ℕ, ◌+◌, ◌-◌, ◌%◌, ◌^◌, ◌<◌, ◌≤◌, max, min, Bool, true, false, cond, eqb, List, [], ◌∷◌, length, length-drop, get_or, take, drop, fold, ℤ, pos, negsuc, ◌-ℤ◌, Some, None, Option, sym, refl, ap, ◌∙◌, subst, ◌⊎◌, inl, inr, ⊎_elim, zero, suc, w64, arith, rules}
use Rattle.std.specs.Int.{int_max, int_wrap, cast_signed}
use Rattle.std.proofs.lemmas.Int.{int_wrap_fits, wrapping_sub-bits, clamps}
use lib.Signed.{lt_z}
use borrow.Author.Differences.{up, down, ints, lt-true, lt-false}
use Rattle.std.proofs.lemmas.Bool.{cond_both, eqb-true, ltb-true, and_parts, or_cases}
use Rattle.auction.specs.declared.bidding.Best.{Best}
use Rattle.auction.specs.declared.bidding.Bid.{Bid}
use Rattle.auction.specs.Bids.{natural, beats, ranked, weighed, weighed_at, looked_on}
use Rattle.auction.proofs.Nets.{natural-up, sides, better, no_better}
use Rattle.hall.specs.declared.books.glance.Glance.{Glance}
use Rattle.hall.specs.Glances.{price_held, glanced_at, glanced, net_in, top_net, follows, wins_ties, lasts}
use Rattle.std.specs.List.{AllByRecursion}
use Rattle.std.specs.Option.{unwrap_or}
use Rattle.std.proofs.lemmas.List.{get_or-take, length-take, take_min}
use Rattle.std.proofs.Math.Nat.{mod-eq_of_lt}
use Rattle.std.proofs.ByRecursion.{All-weaker}
use Rattle.sources.specs.Meaning.{Meaning, Sound, Rising, row_of}
use Rattle.sources.proofs.Reading.{row_known, row_within, row_rising}
use Rattle.sources.proofs.Visiting.{all_in_part}
use Rattle.auction.proofs.Weighed.{folded_looked}

abbrev pub job_of : Option Best → ℕ
job_of None = 0
job_of (Some x) = x.job

abbrev net_of : Option Best → ℤ
net_of None = pos 0
net_of (Some x) = x.net

max_whole : (r : ℕ) (z : ℤ) → int_max (pos r) z ≡ pos (max r (natural z))
max_whole r z = omega (arith, ints, clamps, natural-up z, sides z)

whole : (z : ℤ) → 0 < natural z → z ≡ pos (natural z)
whole (pos n) l = refl
whole (negsuc n) l = absurd (omega arith)

-- The glance has found a best of its own.
pub record Found (prices : List ℕ) (s : Glance) (o : Option Best) (low : ℕ) : Type 0 where
  pub some : 0 < top_net o
  pub best : o ≡ Some (record { net = s.net; job = s.job; worth = natural s.net + price_held prices s.job })
  pub before : s.job < low
  pub light : natural s.net + price_held prices s.job ≤ 2 ^ 60

-- A glance, and the best and the runner-up of the bid that the entries so far come to, beside the bid's best before them. The jobs of
-- all these entries are first or more, those of the entries that follow low or more.
pub record Fits (prices : List ℕ) (old : Option Best) (first : ℕ) (s : Glance) (o : Option Best) (r low : ℕ) : Type 0 where
  pub net : s.net ≡ pos (top_net o)
  pub runner : s.runner_up ≡ pos r
  pub found : s.job < 256 → Found prices s o low
  pub stays : 256 ≤ s.job → top_net o ≡ top_net old
  pub lasts : 256 ≤ s.job → 0 < top_net o → (r < top_net o) ⊎ (job_of old < first) → o ≡ old
  pub begun : first ≤ low
  pub held : s.prices.now ≡ prices

module _ (prices : List ℕ) (old : Option Best) (first p j w low : ℕ) (s : Glance) (n : ℤ) (is : n ≡ pos w -ℤ pos p) (at : p ≡ price_held prices j)
    (after : low ≤ j) (known : j < 256) (light : w ≤ 2 ^ 60) where
  abbrev new : Best
  new = record { net = n; job = j; worth = w }

  abbrev after_at : Bool → Glance
  after_at t = record { prices = s.prices; net = cond t n s.net; job = cond t j s.job; runner_up = int_max s.runner_up (cond t s.net n) }

  abbrev Goal : Bool → Bid → Type 0
  Goal t z = Fits prices old first (after_at t) z.best z.runner_up (j + 1)

  net_here : up n + p ≡ w + down n
  net_here = let e = is in omega (arith, ints, e)

  same_best : 0 < natural n → ◌≡◌ {A = Option Best} (Some new) (Some (record { net = n; job = j; worth = natural n + price_held prices j }))
  same_best l = let e : w ≡ natural n + price_held prices j = omega (arith, net_here, natural-up n, sides n, l, at) in ap (λ k. Some (record { net = n; job = j; worth = k })) e

  heavy : 0 < natural n → natural n + price_held prices j ≤ 2 ^ 60
  heavy l = omega (arith, net_here, natural-up n, sides n, l, at, light)

  module _ (o : Option Best) (r : ℕ) (f : Fits prices old first s o r low) where
    so_high : up s.net ≡ top_net o
    so_high = ap up f.net

    not_low : down s.net ≡ 0
    not_low = ap down f.net

    next : first ≤ j + 1
    next = omega (arith, f.begun, after)

    -- the entry is no new best
    runner_on : int_max s.runner_up n ≡ pos (max r (natural n))
    runner_on = ap (λ x. int_max x n) f.runner ∙ max_whole r n

    found_on : s.job < 256 → Found prices (after_at false) o (j + 1)
    found_on h = let q = f.found h in record { some = q.some; best = q.best; before = omega (arith, q.before, after); light = q.light }

    -- the entry is the best
    taken : 0 < natural n → Fits prices old first (after_at true) (Some new) (max r (top_net o)) (j + 1)
    taken l = record {
      net = whole n l;
      runner = (λ i. int_max (f.runner i) (f.net i)) ∙ max_whole r (pos (top_net o));
      found = λ h. record { some = l; best = same_best l; before = omega arith; light = heavy l };
      stays = λ h. absurd (omega (arith, h, known));
      lasts = λ h. absurd (omega (arith, h, known));
      begun = next;
      held = f.held;
    }

    rises : lt_z s.net n ≡ true → 0 < natural n
    rises e = let l = lt-true s.net n e in omega (arith, l, so_high, not_low, natural-up n, sides n)

    -- an entry of worth 0
    skipped : w ≡ 0 → (t : Bool) → lt_z s.net n ≡ t → Fits prices old first (after_at t) o r (j + 1)
    skipped z true e = let l = rises e in absurd (omega (arith, net_here, natural-up n, sides n, z, l))
    skipped z false e =
        let a : natural n ≡ 0 = omega (arith, net_here, natural-up n, sides n, z) in
        let m : max r (natural n) ≡ r = omega (arith, a) in
        record {
          net = f.net;
          runner = runner_on ∙ ap pos m;
          found = found_on;
          stays = f.stays;
          lasts = f.lasts;
          begun = next;
          held = f.held;
        }

  -- the first entry of more than 0 worth
  first_seen : (b : Bid) → Fits prices old first s None b.runner_up low → (t : Bool) → lt_z s.net n ≡ t → Goal t (ranked b None new)
  first_seen b f true e =
      let m : max b.runner_up 0 ≡ b.runner_up = omega arith in
      subst (λ k. Fits prices old first (after_at true) (Some new) k (j + 1)) m (taken None b.runner_up f (rises None b.runner_up f e))
  first_seen b f false e =
      let l = lt-false s.net n e in
      let a : natural n ≡ 0 = omega (arith, l, so_high None b.runner_up f, not_low None b.runner_up f, natural-up n, sides n) in
      let m : max b.runner_up (natural n) ≡ b.runner_up = omega (arith, a) in
      record {
        net = f.net ∙ ap pos (sym a);
        runner = runner_on None b.runner_up f ∙ ap pos m;
        found = λ h. absurd (let q = (f.found h).some in omega (arith, q));
        stays = λ h. a ∙ f.stays h;
        lasts = λ h z. absurd (omega (arith, a, z));
        begun = next None b.runner_up f;
        held = f.held;
      }

  module _ (b : Bid) (x : Best) (f : Fits prices old first s (Some x) b.runner_up low) where
    high : up s.net ≡ natural x.net
    high = so_high (Some x) b.runner_up f

    flat : down s.net ≡ 0
    flat = not_low (Some x) b.runner_up f

    -- no entry that follows the best is better at a net that is not above it
    none_better : beats new x ≡ true → lt_z s.net n ≡ false → x.net ≡ s.net → x.job < low → ⊥
    none_better t e q k =
        let l = lt-false s.net n e in
        ⊎_elim (λ z. omega (arith, z, l, ap up q, ap down q)) (λ z. omega (arith, z.1, k, after)) (better new x t)

    won : (t : Bool) → lt_z s.net n ≡ t → beats new x ≡ true → Goal t (record { looked = b.looked + 1; best = Some new; runner_up = max b.runner_up (natural x.net) })
    won true e t = taken (Some x) b.runner_up f (rises (Some x) b.runner_up f e)
    won false e t =
        let l = lt-false s.net n e in
        let a : natural n ≡ natural x.net = ⊎_elim (λ z. omega (arith, z, l, high, flat, natural-up n, sides n, natural-up x.net, sides x.net)) (λ z. omega (arith, z.0, l, high, flat, natural-up n, sides n, natural-up x.net, sides x.net)) (better new x t) in
        record {
          net = f.net ∙ ap pos (sym a);
          runner = runner_on (Some x) b.runner_up f ∙ ap (λ k. pos (max b.runner_up k)) a;
          found = λ h. absurd (let q = f.found h in none_better t e (ap net_of q.best) (subst (λ k. k < low) (sym (ap job_of q.best)) q.before));
          stays = λ h. a ∙ f.stays h;
          lasts = λ h z d. absurd (
              let above : 0 < natural x.net = omega (arith, a, z) in
              ⊎_elim (λ u. omega (arith, a, u))
              (λ u. let same = f.lasts h above (inr u) in none_better t e (whole x.net above ∙ sym f.net) (omega (arith, ap job_of same, u, f.begun))) d
              );
          begun = next (Some x) b.runner_up f;
          held = f.held;
        }

    lost : (t : Bool) → lt_z s.net n ≡ t → beats new x ≡ false → Goal t (record { looked = b.looked + 1; best = Some x; runner_up = max b.runner_up (natural n) })
    lost true e t =
        let l = lt-true s.net n e in
        let q = (no_better new x t).0 in
        let above = rises (Some x) b.runner_up f e in
        absurd (omega (arith, l, q, high, flat, above, natural-up n, sides n, natural-up x.net, sides x.net))
    lost false e t = record {
      net = f.net;
      runner = runner_on (Some x) b.runner_up f;
      found = found_on (Some x) b.runner_up f;
      stays = f.stays;
      lasts = λ h z d. f.lasts h z (⊎_elim (λ u. inl (omega (arith, u))) (λ u. inr u) d);
      begun = next (Some x) b.runner_up f;
      held = f.held;
    }

    ranks : (t : Bool) → lt_z s.net n ≡ t → Goal t (ranked b (Some x) new)
    ranks t e = cond_both {A = Bid} (beats new x) _ _ (Goal t) (won t e) (lost t e)

  gained : (b : Bid) (t : Bool) → lt_z s.net n ≡ t → (q : Option Best) → Fits prices old first s q b.runner_up low → Goal t (ranked b q new)
  gained b t e None f = first_seen b f t e
  gained b t e (Some x) f = ranks b x f t e

  -- One more entry.
  pub fits_on : (b : Bid) → Fits prices old first s b.best b.runner_up low → Fits prices old first (glanced_at n j s) (weighed_at p b (j, w)).best (weighed_at p b (j, w)).runner_up (j + 1)
  fits_on b f =
      cond_both {A = Bid} (eqb w 0) _ _ (Goal (lt_z s.net n)) (λ e. skipped b.best b.runner_up f (eqb-true w 0 e) (lt_z s.net n) refl)
      (λ e. subst (λ z. Goal (lt_z s.net n) (ranked b b.best (record { net = z; job = j; worth = w }))) is (gained b (lt_z s.net n) refl b.best f))

net_small : (w p : ℕ) → w ≤ 2 ^ 60 → p ≤ 2 ^ 60 → net_in w p ≡ pos w -ℤ pos p
net_small w p a b =
    let l : w < 2 ^ 63 = omega (arith, a) in
    let k : p < 2 ^ 63 = omega (arith, b) in
    wrapping_sub-bits w64 w p (omega (arith, a)) (omega (arith, b))
    ∙ ap (int_wrap w64) (λ i. cast_small w l i -ℤ cast_small p k i)
    ∙ int_wrap_fits w64 (pos w -ℤ pos p) (search rules)
  where
    cast_small : (x : ℕ) → x < 2 ^ 63 → cast_signed w64 x ≡ pos x
    cast_small x l = search rules

-- All the entries of a part, by rising job.
module _ (prices : List ℕ) (old : Option Best) (first jobs : ℕ) (few : jobs ≤ 256) (low_prices : (j : ℕ) → get_or (take jobs prices) j 0 ≤ 2 ^ 37) where
  pub glances : (s : Glance) (b : Bid) (low : ℕ) (es : List (ℕ × ℕ)) → Fits prices old first s b.best b.runner_up low →
      Rising low es → AllByRecursion (λ e. e.0 < jobs) es → AllByRecursion (λ e. e.1 ≤ 2 ^ 60) es →
      (k : ℕ) × Fits prices old first (fold glanced s es) (fold (weighed (take jobs prices)) b es).best (fold (weighed (take jobs prices)) b es).runner_up k
  unfolding weighed
  glances s b low [] f r known light = (low, f)
  glances s b low (e ∷ es) f r known light =
      let p = get_or (take jobs prices) e.0 0 in
      let known0 : e.0 < jobs = known.0 in
      let few0 : e.0 < 256 = omega (arith, known0, few) in
      let j : e.0 % 256 ≡ e.0 = mod-eq_of_lt (omega (arith, known0, few)) in
      let cheap = low_prices e.0 in
      let at : get_or (take jobs prices) e.0 0 ≡ price_held prices e.0 =
      get_or-take jobs prices e.0 0 known.0 ∙ ap (λ k. get_or prices k 0) (sym j) in
      let price : price_held s.prices.now e.0 ≡ get_or (take jobs prices) e.0 0 = ap (λ q. price_held q e.0) f.held ∙ sym at in
      let is : net_in e.1 (price_held s.prices.now e.0) ≡ pos e.1 -ℤ pos p = ap (net_in e.1) price ∙ net_small e.1 p light.0 (omega (arith, cheap)) in
      let step = fits_on prices old first p e.0 e.1 low s (net_in e.1 (price_held s.prices.now e.0)) is at r.0 few0 light.0 b f in
      let here = subst (λ k. Fits prices old first (glanced_at (net_in e.1 (price_held s.prices.now e.0)) k s) (weighed_at p b (e.0, e.1)).best (weighed_at p b (e.0, e.1)).runner_up (e.0 + 1)) (sym j) step in
      glances (glanced s e) (weighed_at p b e) (e.0 + 1) es here r.1 known.1 light.1

rising_taken : (k low : ℕ) (row : List (ℕ × ℕ)) → Rising low row → Rising low (take k row)
rising_taken zero low row r = tt
rising_taken (suc k) low [] r = tt
rising_taken (suc k) low (e ∷ es) r = (r.0, rising_taken k (e.0 + 1) es r.1)

-- A part's jobs rise from its first one.
rising_part : (k n low : ℕ) (row : List (ℕ × ℕ)) → Rising low row → Rising (get_or row k (0, 0)).0 (take n (drop k row))
rising_part zero zero low row r = tt
rising_part zero (suc n) low [] r = tt
rising_part zero (suc n) low (e ∷ es) r = (omega arith, rising_taken n (e.0 + 1) es r.1)
rising_part (suc k) zero low [] r = tt
rising_part (suc k) (suc n) low [] r = tt
rising_part (suc k) n low (e ∷ es) r = rising_part k n (e.0 + 1) es r.1

follows_it : (job : ℕ) (next : Option (ℕ × ℕ)) (e : ℕ × ℕ) → unwrap_or next (0, 0) ≡ e → follows job next ≡ true → job < e.0
follows_it job None e q t = let z : ◌≡◌ {A = ℕ} 0 1 = cc in absurd (omega arith)
follows_it job (Some n) e q t = omega (arith, ltb-true job n.0 t, ap (λ z. z.0) q)

-- A best that wins ties has a net above 0, and the jobs of the later entries are above its own.
pub tie_won : (o : Option Best) (next : Option (ℕ × ℕ)) (e : ℕ × ℕ) → unwrap_or next (0, 0) ≡ e → wins_ties next o ≡ true → (0 < top_net o) × (job_of o < e.0)
tie_won None next e q t = let z : ◌≡◌ {A = ℕ} 0 1 = cc in absurd (omega arith)
tie_won (Some x) next e q t =
    let p = and_parts (lt_z (pos 0) x.net) _ t in
    let l = lt-true (pos 0) x.net p.0 in
    (omega (arith, l, natural-up x.net, sides x.net), follows_it x.job next e q p.1)

-- A glance that found no better net, where the bid's best lasts.
pub still_best : (prices : List ℕ) (old o : Option Best) (first r low : ℕ) (s : Glance) (next : Option (ℕ × ℕ)) (e : ℕ × ℕ) → Fits prices old first s o r low → 256 ≤ s.job →
    unwrap_or next (0, 0) ≡ e → e.0 ≡ first → lasts s next old ≡ true → o ≡ old
still_best prices old o first r low s next e f none q at t =
    let top = f.stays none in
    ⊎_elim
    (λ u. let l = lt-true s.runner_up s.net u in let below : r < top_net o = omega (arith, l, ap up f.runner, ap down f.runner, ap up f.net, ap down f.net) in
    f.lasts none (omega (arith, below)) (inl below))
    (λ u. let l = tie_won old next e q u in f.lasts none (omega (arith, l.0, top)) (inr (omega (arith, l.1, at))))
    (or_cases (lt_z s.runner_up s.net) _ t)

-- As many entries as there are lanes, or as many as are left.
pub looked_count : (lanes count : ℕ) (ps : List ℕ) (row : List (ℕ × ℕ)) (b : Bid) → count ≡ min lanes (length row - b.looked) → looked_on count ps row b ≡ looked_on lanes ps row b
looked_count lanes count ps row b n =
    ap (fold (weighed ps) b) (ap (λ k. take k (drop b.looked row)) (n ∙ ap (min lanes) (sym (length-drop b.looked row))) ∙ take_min lanes (drop b.looked row))

-- A glance at a part of a row.
module _ (m : Meaning) (sound : Sound m) (few : m.jobs ≤ 256) (prices : List ℕ) (low_prices : (j : ℕ) → get_or (take m.jobs prices) j 0 ≤ 2 ^ 37)
    (i count : ℕ) (b : Bid) (s : Glance) (held : s.prices.now ≡ prices) (net : s.net ≡ pos (top_net b.best)) (job : s.job ≡ 256) (runner_up : s.runner_up ≡ pos b.runner_up) where
  abbrev part : List (ℕ × ℕ)
  part = take count (drop b.looked (row_of m i))

  abbrev pub after : Bid
  after = looked_on count (take m.jobs prices) (row_of m i) b

  abbrev first : ℕ
  first = (get_or (row_of m i) b.looked (0, 0)).0

  begins : Fits prices b.best first s b.best b.runner_up first
  begins = record {
    net = net;
    runner = runner_up;
    found = λ h. absurd (omega (arith, job, h));
    stays = λ h. refl;
    lasts = λ h z d. refl;
    begun = omega arith;
    held = held;
  }

  pub glanced_part : (k : ℕ) × Fits prices b.best first (fold glanced s part) after.best after.runner_up k
  glanced_part =
      let light = All-weaker (λ e. e.1 ≤ m.ceiling) (λ e. e.1 ≤ 2 ^ 60) (λ e l. let h = sound.small in omega (arith, l, h)) (row_of m i) (row_within m sound i) in
      glances prices b.best first m.jobs few low_prices s b first part begins
      (rising_part b.looked count 0 (row_of m i) (row_rising m sound i))
      (all_in_part (λ e. e.0 < m.jobs) b.looked count (row_of m i) (row_known m sound i)) (all_in_part (λ e. e.1 ≤ 2 ^ 60) b.looked count (row_of m i) light)

  -- What is known of it once it was shown the part.
  pub glance_fits : (g : Glance) → g ≡ fold glanced s part → (k : ℕ) × Fits prices b.best first g after.best after.runner_up k
  glance_fits g e = subst (λ z. (k : ℕ) × Fits prices b.best first z after.best after.runner_up k) (sym e) glanced_part

  pub looked_after : count ≤ length (row_of m i) - b.looked → after.looked ≡ b.looked + count
  looked_after inside = omega (arith, folded_looked (take m.jobs prices) part b, length-take count (drop b.looked (row_of m i)), length-drop b.looked (row_of m i), inside)
