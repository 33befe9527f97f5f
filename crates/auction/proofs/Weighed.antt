-- Entries that were weighed count as looked at.
use Rattle.std.proofs.Common.{◌≡◌, ℕ, ◌+◌, eqb, List, [], ◌∷◌, length, Some, None, fold, Option, refl, arith}
use Rattle.std.proofs.lemmas.Bool.{cond_both}
use Rattle.auction.specs.declared.bidding.Best.{Best}
use Rattle.auction.specs.declared.bidding.Bid.{Bid}
use Rattle.auction.specs.Bids.{beats, ranked, weighed}

ranked_looked : (b : Bid) (o : Option Best) (x : Best) → (ranked b o x).looked ≡ b.looked + 1
ranked_looked b None x = refl
ranked_looked b (Some old) x = cond_both (beats x old) _ _ (λ (r : Bid). r.looked ≡ b.looked + 1) (λ e. refl) (λ e. refl)

pub weighed_looked : (ps : List ℕ) (b : Bid) (e : ℕ × ℕ) → (weighed ps b e).looked ≡ b.looked + 1
unfolding weighed
weighed_looked ps b e = cond_both (eqb e.1 0) _ _ (λ (r : Bid). r.looked ≡ b.looked + 1) (λ z. refl) (λ z. ranked_looked b b.best _)

pub folded_looked : (ps : List ℕ) (es : List (ℕ × ℕ)) (b : Bid) → (fold (weighed ps) b es).looked ≡ b.looked + length es
folded_looked ps [] b = omega arith
folded_looked ps (e ∷ es) b = let r = folded_looked ps es (weighed ps b e) in let w = weighed_looked ps b e in omega (arith, r, w)
