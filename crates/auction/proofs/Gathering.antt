-- What a look makes of a bid, of all the nets that it meets.
use Rattle.std.proofs.Common.{◌≡◌, ℕ, ◌+◌, max, Bool, true, false, cond, eqb, List, [], ◌∷◌, ◌++◌, take, drop, Some, None, Ok, fold, Option, Result, sym, refl, ap, ◌∙◌, subst, append_assoc, arith, length-drop, length-take}
use Rattle.std.specs.Option.{option_to_list}
use Rattle.std.specs.List.{AllByRecursion}
use Rattle.std.proofs.lemmas.List.{append-nil}
use Rattle.std.proofs.ByRecursion.{All-push, All-weaker}
use Rattle.std.proofs.lemmas.Bool.{cond_both, false≢true}
use Rattle.refusals.specs.declared.Refusal.{Refusal}
use Rattle.auction.specs.declared.bidding.Best.{Best}
use Rattle.auction.specs.declared.bidding.Bid.{Bid}
use Rattle.auction.specs.declared.bidding.Act.TheVariants.{Look}
use Rattle.auction.specs.declared.bidding.Standing.{Standing}
use Rattle.auction.specs.declared.bidding.Standing.TheVariants.{Bidding}
use Rattle.auction.specs.Bids.{natural, beats, ranked, weighed, looked_on}
use Rattle.auction.specs.Rules.{looked_all, bid_after}
use Rattle.auction.specs.Looks.{net_at, nets_at, largest, Gathered, LooksOn}
use Rattle.auction.proofs.Nets.{still_no_better, not_itself}
use Rattle.auction.proofs.Weighed.{folded_looked}

largest_insert : (r : ℕ) (xs ys : List Best) (z : Best) → largest r (xs ++ z ∷ ys) ≡ max (largest r (xs ++ ys)) (natural z.net)
largest_insert r [] ys z = omega arith
largest_insert r (x ∷ xs) ys z = let i = largest_insert r xs ys z in omega (arith, i)

-- One more net.
ranked_gathers : (r : ℕ) (b : Bid) (o : Option Best) (all : List Best) (n : Best) → Gathered r b.runner_up all o →
    Gathered r (ranked b o n).runner_up (all ++ n ∷ []) (ranked b o n).best
ranked_gathers r b None all n g = record { before = []; after = []; among = ap (λ z. z ++ n ∷ []) g.0; unbeaten = tt; runner = g.1 }
ranked_gathers r b (Some x) all n g = either (beats n x) refl
  where
    won : Bid
    won = record { looked = b.looked + 1; best = Some n; runner_up = max b.runner_up (natural x.net) }

    lost : Bid
    lost = record { looked = b.looked + 1; best = Some x; runner_up = max b.runner_up (natural n.net) }

    either : (t : Bool) → beats n x ≡ t → Gathered r (cond {A = Bid} t won lost).runner_up (all ++ n ∷ []) (cond {A = Bid} t won lost).best
    either true e = record {
      before = g.before ++ x ∷ g.after;
      after = [];
      among = ap (λ z. z ++ n ∷ []) g.among;
      unbeaten = subst (AllByRecursion (λ z. beats z n ≡ false)) (sym (append-nil (g.before ++ x ∷ g.after))) (inserted g.before g.after (not_itself x n e)
          (All-weaker (λ z. beats z x ≡ false) (λ z. beats z n ≡ false) (λ z h. still_no_better x n z h e) (g.before ++ g.after) g.unbeaten));
      runner = ap (λ z. max z (natural x.net)) g.runner ∙ sym (ap (largest r) (append-nil (g.before ++ x ∷ g.after)) ∙ largest_insert r g.before g.after x);
    }
      where
        inserted : (xs ys : List Best) → beats x n ≡ false → AllByRecursion (λ z. beats z n ≡ false) (xs ++ ys) → AllByRecursion (λ z. beats z n ≡ false) (xs ++ x ∷ ys)
        inserted [] ys h a = (h, a)
        inserted (y ∷ xs) ys h a = (a.0, inserted xs ys h a.1)
    either false e = record {
      before = g.before;
      after = g.after ++ n ∷ [];
      among = ap (λ z. z ++ n ∷ []) g.among ∙ append_assoc g.before (x ∷ g.after) (n ∷ []);
      unbeaten = subst (AllByRecursion (λ z. beats z x ≡ false)) (append_assoc g.before g.after (n ∷ [])) (All-push (λ z. beats z x ≡ false) (g.before ++ g.after) n g.unbeaten e);
      runner = ap (λ z. max z (natural n.net)) g.runner
          ∙ sym (ap (largest r) (sym (append_assoc g.before g.after (n ∷ []))) ∙ largest_insert r (g.before ++ g.after) [] n ∙ ap (λ z. max (largest r z) (natural n.net)) (append-nil (g.before ++ g.after)));
    }

module _ (ps : List ℕ) where
  nets_one : (e : ℕ × ℕ) (es : List (ℕ × ℕ)) → nets_at ps (e ∷ es) ≡ nets_at ps (e ∷ []) ++ nets_at ps es
  nets_one e es = go (eqb e.1 0)
    where
      go : (t : Bool) → cond t (nets_at ps es) (net_at ps e ∷ nets_at ps es) ≡ cond t [] (net_at ps e ∷ []) ++ nets_at ps es
      go true = refl
      go false = refl

  weighed_gathers : (r : ℕ) (b : Bid) (all : List Best) (e : ℕ × ℕ) → Gathered r b.runner_up all b.best →
      Gathered r (weighed ps b e).runner_up (all ++ nets_at ps (e ∷ [])) (weighed ps b e).best
  unfolding weighed
  weighed_gathers r b all e g = go (eqb e.1 0)
    where
      go : (t : Bool) → let q : Bid = cond t (record { looked = b.looked + 1; best = b.best; runner_up = b.runner_up }) (ranked b b.best (net_at ps e)) in
          Gathered r q.runner_up (all ++ cond t [] (net_at ps e ∷ [])) q.best
      go true = subst (λ z. Gathered r b.runner_up z b.best) (sym (append-nil all)) g
      go false = ranked_gathers r b b.best all (net_at ps e) g

  pub folded_gathers : (r : ℕ) (es : List (ℕ × ℕ)) (b : Bid) (all : List Best) → Gathered r b.runner_up all b.best →
      Gathered r (fold (weighed ps) b es).runner_up (all ++ nets_at ps es) (fold (weighed ps) b es).best
  folded_gathers r [] b all g = subst (λ z. Gathered r b.runner_up z b.best) (sym (append-nil all)) g
  folded_gathers r (e ∷ es) b all g =
      subst (λ z. Gathered r (fold (weighed ps) (weighed ps b e) es).runner_up z (fold (weighed ps) (weighed ps b e) es).best)
      (append_assoc all (nets_at ps (e ∷ [])) (nets_at ps es) ∙ ap (λ z. all ++ z) (sym (nets_one e es)))
      (folded_gathers r es (weighed ps b e) (all ++ nets_at ps (e ∷ [])) (weighed_gathers r b all e g))

  begins : (r : ℕ) (o : Option Best) → Gathered r r (option_to_list o) o
  begins r None = (refl, refl)
  begins r (Some x) = record { before = []; after = []; among = refl; unbeaten = tt; runner = refl }

  pub looks_on : (lanes : ℕ) (row : List (ℕ × ℕ)) (b : Bid) → LooksOn lanes ps row b (looked_on lanes ps row b)
  looks_on lanes row b = record {
    further = let f = folded_looked ps (take lanes (drop b.looked row)) b in
        let a = length-take lanes (drop b.looked row) in let d = length-drop b.looked row in omega (arith, f, a, d);
    gathered = folded_gathers b.runner_up (take lanes (drop b.looked row)) b (option_to_list b.best) (begins b.runner_up b.best);
  }

-- An accepted look finds an open bid, and looks on.
pub look_from : (lanes : ℕ) (ps : List ℕ) (row : List (ℕ × ℕ)) (s : Standing) (x : Bid) → bid_after lanes ps row s Look ≡ Ok x → (b : Bid) × (s ≡ Bidding b) × (looked_on lanes ps row b ≡ x)
look_from lanes ps row (Bidding b) x e =
    (b, refl, cond_both {A = Result Bid Refusal} (looked_all row b) _ _ (λ r. r ≡ Ok x → looked_on lanes ps row b ≡ x) (λ _ q. absurd (false≢true cc)) (λ _ q. cc) e)
look_from lanes ps row _ x e = absurd (false≢true cc)
