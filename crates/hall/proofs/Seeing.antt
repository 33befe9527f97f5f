-- The entries of a look among themselves, and beside the bid so far.
use Rattle.std.proofs.Common.{◌≡◌, ℕ, ◌+◌, ◌-◌, ◌^◌, ◌<◌, ◌≤◌, max, Bool, true, false, cond, ◌&&◌, ◌||◌, eqb, ◌⊎◌, List, [], ◌∷◌, ℤ, pos, ◌-ℤ◌, Some, None, fold, Option, sym, refl, ap, ◌∙◌, inl, inr, ⊎_elim, arith, min, length, take, drop, get_or, length-drop}
use lib.Signed.{◌≤ℤ◌, lt_z, le_z}
use Rattle.std.specs.Int.{int_max, int_min}
use borrow.Author.Differences.{up, ints, lt-true, lt-false}
use Rattle.std.proofs.lemmas.Int.{clamps}
use Rattle.std.proofs.lemmas.Bool.{both_ways, eqb-true, eq-eqb, le-ltb, cases_Bool, cond-true, cond-false}
use Rattle.auction.specs.declared.bidding.Best.{Best}
use Rattle.auction.specs.declared.bidding.Bid.{Bid}
use Rattle.auction.specs.Bids.{natural, beats, new_bid, ranked, weighed, weighed_at, looked_on}
use Rattle.std.proofs.lemmas.List.{take_min, get_or-drop}
use Rattle.std.proofs.lemmas.List.Sums.{fold_more}
use Rattle.auction.proofs.Nets.{natural-up, beats-true, beats-false, sides, better, no_better, still_no_better}
use Rattle.hall.specs.Seeing.{least, bid_in, merged, merged_best, merged_two}

-- ---- one more entry

pub natural_max : (a b : ℤ) → natural (int_max a b) ≡ max (natural a) (natural b)
natural_max a b =
    let u : up (int_max a b) ≡ max (up a) (up b) = grind (arith, ints, clamps, sides a, sides b, sides (int_max a b)) in
    natural-up (int_max a b) ∙ u ∙ sym (ap (λ n. max n (natural b)) (natural-up a) ∙ ap (max (up a)) (natural-up b))

no_more : (a b : Bool) → (a || (b && false)) ≡ a
no_more true b = refl
no_more false true = refl
no_more false false = refl

module _ (price n job worth : ℕ) (net_s : ℤ) (job_s worth_s : ℕ) (r : ℤ) (net : ℤ)
    (low_worth : worth ≤ 2 ^ 60) (low_price : price ≤ 2 ^ 60) (low_net : least ≤ℤ net_s) (low_r : least ≤ℤ r)
    (none : worth_s ≡ 0 → net_s ≡ least) (rises : (worth_s ≡ 0) ⊎ (job_s < job))
    (is : net ≡ cond (eqb worth 0) least (pos worth -ℤ pos price)) where
  abbrev new : Best
  new = record { net = pos worth -ℤ pos price; job = job; worth = worth }

  abbrev old : Best
  old = record { net = net_s; job = job_s; worth = worth_s }

  abbrev Goal : (w0 s0 b : Bool) → Type 0
  Goal w0 s0 b = record { looked = n + 1; best = cond (cond b w0 s0) None (Some (record { net = int_max net_s net; job = cond b job job_s; worth = cond b worth worth_s })); runner_up = natural (int_max r (int_min net_s net)) }
      ≡ cond {A = Bid} w0 (record { looked = n + 1; best = cond s0 None (Some old); runner_up = natural r }) (ranked (record { looked = n; best = cond s0 None (Some old); runner_up = natural r }) (cond s0 None (Some old)) new)

  abbrev bid_of : Option Best → ℕ → Bid
  bid_of o x = record { looked = n + 1; best = o; runner_up = x }

  same_bid : (o p : Option Best) (x y : ℕ) → o ≡ p → x ≡ y → bid_of o x ≡ bid_of p y
  same_bid o p x y e f = λ i. bid_of (e i) (f i)

  abbrev best_of : ℤ → ℕ → ℕ → Option Best
  best_of x j w = Some (record { net = x; job = j; worth = w })

  same_best : (x y : ℤ) (j w : ℕ) → x ≡ y → best_of x j w ≡ best_of y j w
  same_best x y j w e = ap (λ z. best_of z j w) e

  beats_is : job_s < job → beats new old ≡ lt_z net_s (pos worth -ℤ pos price)
  beats_is l =
      let f = le-ltb job job_s (omega arith) in
      ap (λ t. lt_z net_s (pos worth -ℤ pos price) || (le_z net_s (pos worth -ℤ pos price) && t)) f ∙ no_more (lt_z net_s (pos worth -ℤ pos price)) (le_z net_s (pos worth -ℤ pos price))

  cases : (w0 s0 b : Bool) → eqb worth 0 ≡ w0 → eqb worth_s 0 ≡ s0 → lt_z net_s net ≡ b → Goal w0 s0 b
  cases true s0 true ew es eb =
      let a : net ≡ least = is ∙ ap (λ t. cond t least (pos worth -ℤ pos price)) ew in
      absurd (omega (arith, ints, lt-true net_s net eb, a, low_net))
  cases true s0 false ew es eb =
      let a : net ≡ least = is ∙ ap (λ t. cond t least (pos worth -ℤ pos price)) ew in
      let l = lt-false net_s net eb in
      let m : int_max net_s net ≡ net_s = omega (arith, ints, clamps, a, low_net) in
      let k : int_max r (int_min net_s net) ≡ r = omega (arith, ints, clamps, a, low_net, low_r) in
      same_bid _ _ _ _ (ap (λ z. cond s0 None (best_of z job_s worth_s)) m) (ap natural k)
  cases false true false ew es eb =
      let a : net ≡ pos worth -ℤ pos price = is ∙ ap (λ t. cond t least (pos worth -ℤ pos price)) ew in
      let b = none (eqb-true worth_s 0 es) in
      absurd (omega (arith, ints, lt-false net_s net eb, a, b, low_worth, low_price))
  cases false true true ew es eb =
      let a : net ≡ pos worth -ℤ pos price = is ∙ ap (λ t. cond t least (pos worth -ℤ pos price)) ew in
      let b = none (eqb-true worth_s 0 es) in
      let m : int_max net_s net ≡ pos worth -ℤ pos price = omega (arith, ints, clamps, a, b, low_worth, low_price) in
      let k : int_max r (int_min net_s net) ≡ r = omega (arith, ints, clamps, a, b, low_worth, low_price, low_r) in
      same_bid _ _ _ _ (same_best _ _ job worth m) (ap natural k)
  cases false false true ew es eb =
      let a : net ≡ pos worth -ℤ pos price = is ∙ ap (λ t. cond t least (pos worth -ℤ pos price)) ew in
      let l = lt-true net_s net eb in
      let below = ⊎_elim {C = job_s < job} (λ z. absurd (both_ways (eqb worth_s 0) es (eq-eqb worth_s 0 z))) (λ q. q) rises in
      let m : int_max net_s net ≡ pos worth -ℤ pos price = omega (arith, ints, clamps, a, l) in
      let k : int_min net_s net ≡ net_s = omega (arith, ints, clamps, a, l) in
      let t : beats new old ≡ true = beats_is below ∙ ap (lt_z net_s) (sym a) ∙ eb in
      same_bid _ _ _ _ (same_best _ _ job worth m) (natural_max r (int_min net_s net) ∙ ap (λ z. max (natural r) (natural z)) k)
      ∙ sym (cond-true {A = Bid} (beats new old) _ _ t)
  cases false false false ew es eb =
      let a : net ≡ pos worth -ℤ pos price = is ∙ ap (λ t. cond t least (pos worth -ℤ pos price)) ew in
      let l = lt-false net_s net eb in
      let below = ⊎_elim {C = job_s < job} (λ z. absurd (both_ways (eqb worth_s 0) es (eq-eqb worth_s 0 z))) (λ q. q) rises in
      let m : int_max net_s net ≡ net_s = omega (arith, ints, clamps, a, l) in
      let k : int_min net_s net ≡ pos worth -ℤ pos price = omega (arith, ints, clamps, a, l) in
      let t : beats new old ≡ false = beats_is below ∙ ap (lt_z net_s) (sym a) ∙ eb in
      same_bid _ _ _ _ (same_best _ _ job_s worth_s m) (natural_max r (int_min net_s net) ∙ ap (λ z. max (natural r) (natural z)) k)
      ∙ sym (cond-false {A = Bid} (beats new old) _ _ t)

  pub seen_step : (b : Bool) → b ≡ lt_z net_s net → bid_in (n + 1) (int_max net_s net) (cond b job job_s) (cond b worth worth_s) (int_max r (int_min net_s net)) ≡ weighed_at price (bid_in n net_s job_s worth_s r) (job, worth)
  seen_step b e =
      ap (λ t. bid_of (cond t None (Some (record { net = int_max net_s net; job = cond b job job_s; worth = cond b worth worth_s }))) (natural (int_max r (int_min net_s net)))) (picked b)
      ∙ cases (eqb worth 0) (eqb worth_s 0) b refl refl (sym e)
    where
      picked : (b : Bool) → eqb (cond b worth worth_s) 0 ≡ cond b (eqb worth 0) (eqb worth_s 0)
      picked true = refl
      picked false = refl

  pub still_none : (b : Bool) → b ≡ lt_z net_s net → cond b worth worth_s ≡ 0 → int_max net_s net ≡ least
  still_none true e z =
      let a : net ≡ least = is ∙ ap (λ t. cond t least (pos worth -ℤ pos price)) (eq-eqb worth 0 z) in
      absurd (omega (arith, ints, lt-true net_s net (sym e), a, low_net))
  still_none false e z = let b = none z in let l = lt-false net_s net (sym e) in omega (arith, ints, clamps, b, l)

  pub still_rises : (b : Bool) (next : ℕ) → job < next → (cond b worth worth_s ≡ 0) ⊎ (cond b job job_s < next)
  still_rises true next l = inr l
  still_rises false next l = ⊎_elim (λ z. inl z) (λ q. inr (omega arith)) rises

-- ---- entries that came to a bid of their own, beside the bid so far

abbrev bid : ℕ → Option Best → ℕ → Bid
bid l o r = record { looked = l; best = o; runner_up = r }

beats_on : (n y x : Best) → beats n y ≡ true → beats y x ≡ true → beats n x ≡ true
beats_on n y x p q = ⊎_elim (λ t. t) (λ f. absurd (both_ways (beats n y) (still_no_better x y n f q) p)) (cases_Bool (beats n x))

no_better_on : (n y x : Best) → beats n y ≡ false → beats y x ≡ false → beats n x ≡ false
no_better_on n y x p q =
    ⊎_elim (λ t. let a = no_better y x q in let b = no_better n y p in
    absurd (⊎_elim (λ l. omega (arith, l, a.0, b.0))
    (λ l. ⊎_elim (λ c. omega (arith, l.0, c, b.0)) (λ c. ⊎_elim (λ d. omega (arith, l.0, d, a.0)) (λ d. omega (arith, l.1, c, d)) b.1) a.1)
    (better n x t)))
    (λ f. f) (cases_Bool (beats n x))

merged_ranked : (lb rb ls rs : ℕ) (ob os : Option Best) (n : Best) →
    ranked (merged (bid lb ob rb) (bid ls os rs)) (merged (bid lb ob rb) (bid ls os rs)).best n ≡ merged (bid lb ob rb) (ranked (bid ls os rs) os n)
merged_ranked lb rb ls rs None None n = let e : (lb + ls) + 1 ≡ lb + (ls + 1) = omega arith in ap (λ k. bid k (Some n) (max rb rs)) e
merged_ranked lb rb ls rs (Some x) None n =
    let e : (lb + ls) + 1 ≡ lb + (ls + 1) = omega arith in
    ap (λ k. cond (beats n x) (bid k (Some n) (max (max rb rs) (natural x.net))) (bid k (Some x) (max (max rb rs) (natural n.net)))) e
merged_ranked lb rb ls rs None (Some y) n = go (beats n y)
  where
    go : (t : Bool) → cond t (bid ((lb + ls) + 1) (Some n) (max (max rb rs) (natural y.net))) (bid ((lb + ls) + 1) (Some y) (max (max rb rs) (natural n.net)))
        ≡ merged (bid lb None rb) (cond t (bid (ls + 1) (Some n) (max rs (natural y.net))) (bid (ls + 1) (Some y) (max rs (natural n.net))))
    go true = let e : (lb + ls) + 1 ≡ lb + (ls + 1) = omega arith in let r : max (max rb rs) (natural y.net) ≡ max rb (max rs (natural y.net)) = omega arith in λ i. bid (e i) (Some n) (r i)
    go false = let e : (lb + ls) + 1 ≡ lb + (ls + 1) = omega arith in let r : max (max rb rs) (natural n.net) ≡ max rb (max rs (natural n.net)) = omega arith in λ i. bid (e i) (Some y) (r i)
merged_ranked lb rb ls rs (Some x) (Some y) n = both (beats y x) (beats n y) (beats n x) refl refl refl
  where
    so_far : Bool → Bid
    so_far p = cond p (bid (lb + ls) (Some y) (max (max rb rs) (natural x.net))) (bid (lb + ls) (Some x) (max (max rb rs) (natural y.net)))

    left : Bool → Bid
    left p = ranked (so_far p) (so_far p).best n

    right : Bool → Bid
    right q = merged (bid lb (Some x) rb) (cond q (bid (ls + 1) (Some n) (max rs (natural y.net))) (bid (ls + 1) (Some y) (max rs (natural n.net))))

    same : (o : Best) (r s : ℕ) → r ≡ s → bid ((lb + ls) + 1) (Some o) r ≡ bid (lb + (ls + 1)) (Some o) s
    same o r s q = let e : (lb + ls) + 1 ≡ lb + (ls + 1) = omega arith in λ i. bid (e i) (Some o) (q i)

    both : (p q r : Bool) → beats y x ≡ p → beats n y ≡ q → beats n x ≡ r → left (beats y x) ≡ right (beats n y)
    both true true r ep eq er =
        ap left ep ∙ cond-true {A = Bid} (beats n y) _ _ eq ∙ same n _ _ (omega arith)
        ∙ sym (ap right eq ∙ cond-true {A = Bid} (beats n x) _ _ (beats_on n y x eq ep))
    both true false r ep eq er =
        ap left ep ∙ cond-false {A = Bid} (beats n y) _ _ eq ∙ same y _ _ (omega arith)
        ∙ sym (ap right eq ∙ cond-true {A = Bid} (beats y x) _ _ ep)
    both false true true ep eq er =
        ap left ep ∙ cond-true {A = Bid} (beats n x) _ _ er ∙ same n _ _ (omega arith)
        ∙ sym (ap right eq ∙ cond-true {A = Bid} (beats n x) _ _ er)
    both false true false ep eq er =
        ap left ep ∙ cond-false {A = Bid} (beats n x) _ _ er ∙ same x _ _ (omega arith)
        ∙ sym (ap right eq ∙ cond-false {A = Bid} (beats n x) _ _ er)
    both false false r ep eq er =
        ap left ep ∙ cond-false {A = Bid} (beats n x) _ _ (no_better_on n y x eq ep) ∙ same x _ _ (omega arith)
        ∙ sym (ap right eq ∙ cond-false {A = Bid} (beats y x) _ _ ep)

merged_skipped : (lb rb ls rs : ℕ) (ob os : Option Best) →
    bid ((merged (bid lb ob rb) (bid ls os rs)).looked + 1) (merged (bid lb ob rb) (bid ls os rs)).best (merged (bid lb ob rb) (bid ls os rs)).runner_up ≡ merged (bid lb ob rb) (bid (ls + 1) os rs)
merged_skipped lb rb ls rs ob None = let e : (lb + ls) + 1 ≡ lb + (ls + 1) = omega arith in ap (λ k. bid k ob (max rb rs)) e
merged_skipped lb rb ls rs None (Some y) = let e : (lb + ls) + 1 ≡ lb + (ls + 1) = omega arith in ap (λ k. bid k (Some y) (max rb rs)) e
merged_skipped lb rb ls rs (Some x) (Some y) = go (beats y x)
  where
    go : (t : Bool) → let m : Bid = cond t (bid (lb + ls) (Some y) (max (max rb rs) (natural x.net))) (bid (lb + ls) (Some x) (max (max rb rs) (natural y.net))) in
        bid (m.looked + 1) m.best m.runner_up ≡ cond t (bid (lb + (ls + 1)) (Some y) (max (max rb rs) (natural x.net))) (bid (lb + (ls + 1)) (Some x) (max (max rb rs) (natural y.net)))
    go true = let e : (lb + ls) + 1 ≡ lb + (ls + 1) = omega arith in ap (λ k. bid k (Some y) (max (max rb rs) (natural x.net))) e
    go false = let e : (lb + ls) + 1 ≡ lb + (ls + 1) = omega arith in ap (λ k. bid k (Some x) (max (max rb rs) (natural y.net))) e

merged_weighed : (price : ℕ) (b s : Bid) (e : ℕ × ℕ) → weighed_at price (merged b s) e ≡ merged b (weighed_at price s e)
merged_weighed price b s e = go (eqb e.1 0)
  where
    new : Best
    new = record { net = pos e.1 -ℤ pos price; job = e.0; worth = e.1 }

    go : (t : Bool) → cond t (bid ((merged b s).looked + 1) (merged b s).best (merged b s).runner_up) (ranked (merged b s) (merged b s).best new)
        ≡ merged b (cond t (bid (s.looked + 1) s.best s.runner_up) (ranked s s.best new))
    go true = merged_skipped b.looked b.runner_up s.looked s.runner_up b.best s.best
    go false = merged_ranked b.looked b.runner_up s.looked s.runner_up b.best s.best new

merged_fold : (ps : List ℕ) (b s : Bid) (es : List (ℕ × ℕ)) → fold (weighed ps) (merged b s) es ≡ merged b (fold (weighed ps) s es)
unfolding weighed
merged_fold ps b s [] = refl
merged_fold ps b s (e ∷ es) = ap (λ z. fold (weighed ps) z es) (merged_weighed (get_or ps e.0 0) b s e) ∙ merged_fold ps b (weighed ps s e) es

merged_new_bid : (b : Bid) → merged b new_bid ≡ b
merged_new_bid b = let e : b.looked + 0 ≡ b.looked = omega arith in let r : max b.runner_up 0 ≡ b.runner_up = omega arith in λ i. bid (e i) b.best (r i)

-- What a look comes to: its entries among themselves, beside the bid that it began with.
pub look_merged : (lanes count : ℕ) (ps : List ℕ) (row : List (ℕ × ℕ)) (b s : Bid) → count ≡ min lanes (length row - b.looked) → s ≡ fold (weighed ps) new_bid (take count (drop b.looked row)) →
    merged b s ≡ looked_on lanes ps row b
look_merged lanes count ps row b s n e =
    ap (merged b) e ∙ sym (merged_fold ps b new_bid (take count (drop b.looked row)))
    ∙ ap (λ z. fold (weighed ps) z (take count (drop b.looked row))) (merged_new_bid b)
    ∙ ap (fold (weighed ps) b) (ap (λ k. take k (drop b.looked row)) (n ∙ ap (min lanes) (sym (length-drop b.looked row))) ∙ take_min lanes (drop b.looked row))

-- One more entry of the row.
pub seen_more : (ps : List ℕ) (row : List (ℕ × ℕ)) (from place k : ℕ) (s : Bid) (e : ℕ × ℕ) → from ≤ place → k ≡ place - from → place < length row → e ≡ get_or row place (0, 0) →
    s ≡ fold (weighed ps) new_bid (take k (drop from row)) → weighed ps s e ≡ fold (weighed ps) new_bid (take (k + 1) (drop from row))
seen_more ps row from place k s e l m inside is before =
    let at : from + k ≡ place = omega arith in
    ap (λ z. weighed ps z e) before
    ∙ ap (weighed ps (fold (weighed ps) new_bid (take k (drop from row)))) (is ∙ ap (λ j. get_or row j (0, 0)) (sym at) ∙ sym (get_or-drop from row k (0, 0)))
    ∙ sym (fold_more (weighed ps) new_bid (drop from row) k (0, 0) (omega (arith, length-drop from row)))

-- The better of two bests, number by number.
module _ (b : Bid) (n : ℕ) (net : ℤ) (job worth : ℕ) (r : ℤ) (old : Best) (has : b.best ≡ Some old) (some : eqb worth 0 ≡ false) where
  abbrev seen_best : Best
  seen_best = record { net = net; job = job; worth = worth }

  abbrev both_best : Bool → Bid
  both_best t = cond t (bid (b.looked + n) (Some seen_best) (max (max b.runner_up (natural r)) (natural old.net))) (bid (b.looked + n) (Some old) (max (max b.runner_up (natural r)) (natural net)))

  merged_is : merged b (bid_in n net job worth r) ≡ both_best (beats seen_best old)
  merged_is =
      ap (λ t. merged_best b (bid n (cond t None (Some seen_best)) (natural r)) (cond t None (Some seen_best))) some
      ∙ ap (λ o. merged_two b (bid n (Some seen_best) (natural r)) o seen_best) has

  pub best_of_both : (t : Bool) (z : ℤ) (j w m : ℕ) → t ≡ beats seen_best old → z ≡ int_max old.net net → j ≡ cond t job old.job → w ≡ cond t worth old.worth →
      m ≡ max (max b.runner_up (natural r)) (natural (int_min old.net net)) → bid (b.looked + n) (Some (record { net = z; job = j; worth = w })) m ≡ merged b (bid_in n net job worth r)
  best_of_both true z j w m e ez ej ew em =
      let l = beats-true seen_best old (sym e) in
      let a : z ≡ net = omega (arith, ints, clamps, ez, l) in
      let k : int_min old.net net ≡ old.net = omega (arith, ints, clamps, l) in
      let q : m ≡ max (max b.runner_up (natural r)) (natural old.net) = em ∙ ap (λ x. max (max b.runner_up (natural r)) (natural x)) k in
      (λ i. bid (b.looked + n) (Some (record { net = a i; job = ej i; worth = ew i })) (q i)) ∙ sym (merged_is ∙ ap both_best (sym e))
  best_of_both false z j w m e ez ej ew em =
      let l = beats-false seen_best old (sym e) in
      let a : z ≡ old.net = omega (arith, ints, clamps, ez, l) in
      let k : int_min old.net net ≡ net = omega (arith, ints, clamps, l) in
      let q : m ≡ max (max b.runner_up (natural r)) (natural net) = em ∙ ap (λ x. max (max b.runner_up (natural r)) (natural x)) k in
      (λ i. bid (b.looked + n) (Some (record { net = a i; job = ej i; worth = ew i })) (q i)) ∙ sym (merged_is ∙ ap both_best (sym e))
