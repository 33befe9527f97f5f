-- A look keeps a bid sound, and finds no price risen that had not risen before.
use Rattle.std.proofs.Common.{◌≡◌, ℕ, ◌<◌, ◌≤◌, max, eqb, List, [], ◌∷◌, get_or, take, drop, Some, None, fold, Option, ap, arith}
use borrow.Author.Differences.{up, ints}
use Rattle.std.specs.List.{AllByRecursion}
use Rattle.std.proofs.ByRecursion.{All-take, All-drop}
use Rattle.std.proofs.lemmas.Bool.{cond_both}
use Rattle.auction.specs.declared.bidding.Best.{Best}
use Rattle.auction.specs.declared.bidding.Bid.{Bid}
use Rattle.auction.specs.Bids.{natural, beats, ranked, weighed, looked_on}
use Rattle.auction.specs.Looks.{net_at}
use Rattle.auction.specs.Standings.{BestSound, BidSound, best_risen}
use Rattle.auction.proofs.Counted.{one}
use Rattle.auction.proofs.Nets.{natural-up, sides, net_is, beats-true, beats-false, risen_false}

module _ (jobs ceiling : ℕ) (ps : List ℕ) where
  -- The bid is sound, and its best job's price has risen only if that of the old one had.
  abbrev pub StaysSound : Option Best → Bid → Type 0
  StaysSound old b = BidSound jobs ceiling b.runner_up b.best × (one (best_risen ps b.best) ≤ one (best_risen ps old))

  -- A best that was just seen.
  seen_now : (r : ℕ) (e : ℕ × ℕ) → e.0 < jobs → e.1 ≤ ceiling → r ≤ up (net_at ps e).net → BestSound jobs ceiling r (net_at ps e)
  seen_now r e j w h = record {
    known = j;
    low_worth = w;
    low_net = omega (arith, ints);
    low_runner = omega (arith, natural-up (net_at ps e).net, h);
  }

  unrisen : (e : ℕ × ℕ) → one (best_risen ps (Some (net_at ps e))) ≡ 0
  unrisen e = ap one (risen_false ps (net_at ps e) (let n = net_is e.1 (get_or ps e.0 0) in omega (arith, n)))

  ranked_sound : (b : Bid) (o : Option Best) (e : ℕ × ℕ) → e.0 < jobs → e.1 ≤ ceiling → BidSound jobs ceiling b.runner_up o → StaysSound o (ranked b o (net_at ps e))
  ranked_sound b None e j w h = (seen_now b.runner_up e j w (omega (arith, h)), omega (arith, unrisen e))
  ranked_sound b (Some old) e j w h =
      cond_both {A = Bid} (beats (net_at ps e) old) _ _ (StaysSound (Some old))
      (λ t. let a = beats-true (net_at ps e) old t in let c = natural-up old.net in let d = sides old.net in let u = h.low_runner in
      (seen_now (max b.runner_up (natural old.net)) e j w (omega (arith, a, c, d, u)), omega (arith, unrisen e)))
      (λ t. let a = beats-false (net_at ps e) old t in let c = natural-up (net_at ps e).net in let d = sides (net_at ps e).net in let u = h.low_runner in let v = natural-up old.net in
      (record { known = h.known; low_worth = h.low_worth; low_net = h.low_net; low_runner = omega (arith, a, c, d, u, v) }, omega arith))

  pub weighed_sound : (b : Bid) (e : ℕ × ℕ) → e.0 < jobs → e.1 ≤ ceiling → BidSound jobs ceiling b.runner_up b.best → StaysSound b.best (weighed ps b e)
  unfolding weighed
  weighed_sound b e j w h =
      cond_both {A = Bid} (eqb e.1 0) _ _ (StaysSound b.best) (λ _. (h, omega arith)) (λ _. ranked_sound b b.best e j w h)

  folded_sound : (es : List (ℕ × ℕ)) (b : Bid) → AllByRecursion (λ e. e.0 < jobs) es → AllByRecursion (λ e. e.1 ≤ ceiling) es → BidSound jobs ceiling b.runner_up b.best →
      StaysSound b.best (fold (weighed ps) b es)
  folded_sound [] b j w h = (h, omega arith)
  folded_sound (e ∷ es) b j w h =
      let first = weighed_sound b e j.0 w.0 h in
      let rest = folded_sound es (weighed ps b e) j.1 w.1 first.0 in
      (rest.0, omega (arith, first.1, rest.1))

  pub looked_sound : (lanes : ℕ) (row : List (ℕ × ℕ)) (b : Bid) → AllByRecursion (λ e. e.0 < jobs) row → AllByRecursion (λ e. e.1 ≤ ceiling) row → BidSound jobs ceiling b.runner_up b.best →
      StaysSound b.best (looked_on lanes ps row b)
  looked_sound lanes row b j w h = folded_sound (take lanes (drop b.looked row)) b
      (All-take (λ e. e.0 < jobs) lanes (drop b.looked row) (All-drop (λ e. e.0 < jobs) b.looked row j))
      (All-take (λ e. e.1 ≤ ceiling) lanes (drop b.looked row) (All-drop (λ e. e.1 ≤ ceiling) b.looked row w)) h
