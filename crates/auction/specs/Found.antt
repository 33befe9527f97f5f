-- What a bid has found over all its looks, said of the entries that it has seen: no lanes, and no single look.
use Rattle.std.specs.Prelude.{◌≡◌, ℕ, ◌≤◌, cond, List, [], ◌∷◌, map, length, take, pos, ◌-ℤ◌, ◌==◌, slice_index}
use Rattle.std.specs.List.{AllByRecursion}
use Rattle.auction.specs.declared.bidding.Best.{Best}
use Rattle.auction.specs.declared.bidding.Bid.{Bid}
use Rattle.auction.specs.Looks.{Gathered}

-- An entry that was looked at, with what its job cost then.
pub record SeenEntry : Type 0 where
  pub entry : ℕ × ℕ
  pub price : ℕ

-- The nets of all that was seen; entries of worth 0 are skipped.
abbrev pub nets_seen : List SeenEntry → List Best
nets_seen [] = []
nets_seen (s ∷ ss) = cond (s.entry.1 == 0) (nets_seen ss) (record { net = pos s.entry.1 -ℤ pos s.price; job = s.entry.0; worth = s.entry.1 } ∷ nets_seen ss)

-- The bid has seen the first entries of the row, each once, at prices that have not fallen since. Of all the nets that it saw its best is the best, and its runner-up the largest of the others, or 0.
pub record Found (prices : List ℕ) (row : List (ℕ × ℕ)) (b : Bid) : Type 0 where
  pub seen : List SeenEntry
  pub within : b.looked ≤ length row
  pub entries : map (λ s. s.entry) seen ≡ take b.looked row
  pub risen : AllByRecursion (λ s. s.price ≤ slice_index prices s.entry.0) seen
  pub gathered : Gathered 0 b.runner_up (nets_seen seen) b.best
