-- A look keeps a bid fitting its row.
use Rattle.std.proofs.Common.{◌≡◌, ℕ, zero, suc, ◌+◌, ◌<◌, ◌≤◌, max, eqb, List, length, get_or, take, drop, Some, None, fold, Option, sym, refl, ap, ◌∙◌, subst, ⊎_elim, arith, below_more}
use Rattle.std.proofs.lemmas.Bool.{cases_lt, cases_eq, cond_both, eqb-true, eqb-false}
use Rattle.std.proofs.lemmas.List.{drop_more, drop_all}
use Rattle.sources.specs.Meaning.{worth_in, Rising}
use Rattle.auction.specs.declared.bidding.Best.{Best}
use Rattle.auction.specs.declared.bidding.Bid.{Bid}
use Rattle.auction.specs.Looks.{net_at}
use Rattle.auction.specs.Bids.{natural, beats, ranked, weighed, looked_on}
use Rattle.auction.proofs.Rows.{job_in, worth_on, listed}
use Rattle.auction.proofs.Nets.{natural-up, net_is}
use Rattle.auction.proofs.Weighed.{weighed_looked}
use Rattle.auction.proofs.Invariant.{BestFits, BidFits}

module _ (ps : List ℕ) (row : List (ℕ × ℕ)) (rise : Rising 0 row) where
  abbrev entry : ℕ → ℕ × ℕ
  entry n = get_or row n (0, 0)

  abbrev BidFitsRow : Bid → Type 0
  BidFitsRow b = (b.looked ≤ length row) × BidFits ps row b.looked b.runner_up b.best

  -- An entry of worth 0 is skipped.
  skipped : (n r : ℕ) (o : Option Best) → worth_on row n ≡ 0 → BidFits ps row n r o → BidFits ps row (n + 1) r o
  skipped n r None z g = below_more (λ k. worth_on row k ≡ 0) n g z
  skipped n r (Some x) z g = record {
    worth_is = g.worth_is;
    worthy = g.worthy;
    seen = g.seen;
    others = below_more (λ k. (job_in row k ≡ x.job → ⊥) → worth_on row k ≤ get_or ps (job_in row k) 0 + r) n g.others (λ _. omega arith);
  }

  new_best : (n r : ℕ) → n < length row → (worth_on row n ≡ 0 → ⊥) → ((k : ℕ) → k < n → worth_on row k ≤ get_or ps (job_in row k) 0 + r) → BestFits ps row (n + 1) r (net_at ps (entry n))
  new_best n r l some each =
      let e = net_is (worth_on row n) (get_or ps (job_in row n) 0) in
      record {
        worth_is = sym (listed 0 row rise n l);
        worthy = omega arith;
        seen = omega (arith, e);
        others = below_more (λ k. (job_in row k ≡ job_in row n → ⊥) → worth_on row k ≤ get_or ps (job_in row k) 0 + r) n (λ k h _. each k h) (λ a. absurd (a refl));
      }

  ranked_fits : (b : Bid) (o : Option Best) → b.looked < length row → (worth_on row b.looked ≡ 0 → ⊥) → BidFits ps row b.looked b.runner_up o →
      BidFitsRow (ranked b o (net_at ps (entry b.looked)))
  ranked_fits b None l some g = (omega arith, new_best b.looked b.runner_up l some (λ k h. let w = g k h in omega (arith, w)))
  ranked_fits b (Some old) l some g =
      cond_both {A = Bid} (beats (net_at ps (entry n)) old) _ _ BidFitsRow
      (λ _. (omega arith, new_best n (max r (natural old.net)) l some was))
      (λ _. (
        omega arith,
        record {
          worth_is = g.worth_is;
          worthy = g.worthy;
          seen = g.seen;
          others = below_more (λ k. (job_in row k ≡ old.job → ⊥) → worth_on row k ≤ get_or ps (job_in row k) 0 + max r (natural (net_at ps (entry n)).net)) n
              (λ k h ne. let w = g.others k h ne in omega (arith, w))
              (λ _. let e = net_is (worth_on row n) (get_or ps (job_in row n) 0) in let c = natural-up (net_at ps (entry n)).net in omega (arith, e, c));
        },
      ))
    where
      n : ℕ
      n = b.looked

      r : ℕ
      r = b.runner_up

      was : (k : ℕ) → k < n → worth_on row k ≤ get_or ps (job_in row k) 0 + max r (natural old.net)
      was k h =
          ⊎_elim
          (λ e. let w : worth_on row k ≡ old.worth = sym (listed 0 row rise k (omega arith)) ∙ ap (worth_in row) e ∙ sym g.worth_is in
          let p : get_or ps (job_in row k) 0 ≡ get_or ps old.job 0 = ap (λ j. get_or ps j 0) e in
          let f = g.seen in let c = natural-up old.net in omega (arith, w, p, f, c))
          (λ ne. let w = g.others k h ne in omega (arith, w)) (cases_eq (job_in row k) old.job)

  weighed_fits : (b : Bid) → b.looked < length row → BidFitsRow b → BidFitsRow (weighed ps b (entry b.looked))
  unfolding weighed
  weighed_fits b l g =
      cond_both {A = Bid} (eqb (worth_on row b.looked) 0) _ _ BidFitsRow
      (λ t. (omega arith, skipped b.looked b.runner_up b.best (eqb-true (worth_on row b.looked) 0 t) g.1))
      (λ t. ranked_fits b b.best l (eqb-false (worth_on row b.looked) 0 t) g.1)

  pub looked_fits : (n : ℕ) (b : Bid) → BidFitsRow b → BidFitsRow (looked_on n ps row b)
  looked_fits zero b g = g
  looked_fits (suc n) b g =
      ⊎_elim
      (λ l. let next = looked_fits n (weighed ps b (entry b.looked)) (weighed_fits b l g) in
      subst (λ xs. BidFitsRow (fold (weighed ps) b (take (suc n) xs))) (sym (drop_more row b.looked (0, 0) l))
      (subst (λ k. BidFitsRow (fold (weighed ps) (weighed ps b (entry b.looked)) (take n (drop k row)))) (weighed_looked ps b (entry b.looked)) next))
      (λ l. subst (λ xs. BidFitsRow (fold (weighed ps) b (take (suc n) xs))) (sym (drop_all b.looked row l)) g)
      (cases_lt b.looked (length row))
