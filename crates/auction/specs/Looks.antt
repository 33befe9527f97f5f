-- What a look makes of a bid, said of all the nets that it meets.
use Rattle.std.specs.Prelude.{◌≡◌, ℕ, ◌+◌, ◌-◌, min, max, false, cond, List, [], ◌∷◌, ◌++◌, length, take, drop, pos, ◌-ℤ◌, Some, None, Option, ◌==◌, slice_index}
use Rattle.std.specs.Option.{option_to_list}
use Rattle.std.specs.List.{AllByRecursion}
use Rattle.sources.specs.Meaning.{Meaning, row_of}
use Rattle.auction.specs.declared.bidding.Best.{Best}
use Rattle.auction.specs.declared.bidding.Bid.{Bid}
use Rattle.auction.specs.declared.bidding.Standing.TheVariants.{Bidding}
use Rattle.auction.specs.Tally.{Tally, standing_at}
use Rattle.auction.specs.Bids.{natural, beats}

-- An entry with its net at the price of its job.
abbrev pub net_at : List ℕ → ℕ × ℕ → Best
net_at prices e = record { net = pos e.1 -ℤ pos (slice_index prices e.0); job = e.0; worth = e.1 }

-- All of them; entries of worth 0 are skipped.
abbrev pub nets_at : List ℕ → List (ℕ × ℕ) → List Best
nets_at prices [] = []
nets_at prices (e ∷ es) = cond (e.1 == 0) (nets_at prices es) (net_at prices e ∷ nets_at prices es)

-- The largest of r and the nets, where a negative one counts as 0.
abbrev pub largest : ℕ → List Best → ℕ
largest r [] = r
largest r (z ∷ zs) = max (natural z.net) (largest r zs)

-- x is one of all the nets, none of the others is better, and r' is the largest of r and the others.
pub record BestOf (r r' : ℕ) (all : List Best) (x : Best) : Type 0 where
  pub before : List Best
  pub after : List Best
  pub among : all ≡ before ++ x ∷ after
  pub unbeaten : AllByRecursion (λ z. beats z x ≡ false) (before ++ after)
  pub runner : r' ≡ largest r (before ++ after)

abbrev pub Gathered : ℕ → ℕ → List Best → Option Best → Type 0
Gathered r r' all None = (all ≡ []) × (r' ≡ r)
Gathered r r' all (Some x) = BestOf r r' all x

-- A look takes the next lanes entries of the row, or as many as are left. The best is that of the old best and the new nets, and the runner-up
-- is the largest of the old runner-up and the other nets.
pub record LooksOn (lanes : ℕ) (prices : List ℕ) (row : List (ℕ × ℕ)) (old new : Bid) : Type 0 where
  pub further : new.looked ≡ old.looked + min lanes (length row - old.looked)
  pub gathered : Gathered old.runner_up new.runner_up (option_to_list old.best ++ nets_at prices (take lanes (drop old.looked row))) new.best

-- Carrier i was bidding and is bidding, and its bid has looked on.
pub record Looks (m : Meaning) (i : ℕ) (t t' : Tally) : Type 0 where
  pub old : Bid
  pub new : Bid
  pub was : standing_at t i ≡ Bidding old
  pub is : standing_at t' i ≡ Bidding new
  pub on : LooksOn t.lanes t.prices (row_of m i) old new
