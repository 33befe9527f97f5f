-- The books' invariant: how it comes out of the ghost field, and how it is made.
use Prim.{IsProp}
use Rattle.std.proofs.Common.{◌≡◌, ℕ, List, length, Option, sym, subst}
use mathlib.Core.Logic.{∥∥₁_elim}
use native.Mathlib.Nat.{ℕ_set}
use Rattle.sources.specs.declared.records.Heading.{Heading}
use Rattle.auction.specs.declared.bidding.Counts.{Counts}
use Rattle.auction.specs.declared.bidding.Standing.{Standing}
use Rattle.auction.specs.Tally.{Tally}
use Rattle.auction.specs.Consistent.{Consistent}
use Rattle.auction.proofs.Props.{consistent_prop}
use Rattle.hall.specs.BooksSound.{BooksSound, tally_held}

module _ {noted : Heading} {step lanes : ℕ} {prices : List ℕ} {holders : List (Option ℕ)} {standings : List Standing} {n : Counts} where
  sound_prop : IsProp (BooksSound noted step lanes prices holders standings n)
  sound_prop p q = λ i. record {
    prices_long = ℕ_set (length prices) 256 p.prices_long q.prices_long i;
    holders_long = ℕ_set (length holders) 256 p.holders_long q.holders_long i;
    standings_long = ℕ_set (length standings) 128 p.standings_long q.standings_long i;
    consistent = consistent_prop noted.carriers noted.jobs noted.ceiling (tally_held noted step lanes prices holders standings n) p.consistent q.consistent i;
  }

  -- Out of the ghost field.
  pub sound_out : ∥ BooksSound noted step lanes prices holders standings n ∥₁ → BooksSound noted step lanes prices holders standings n
  sound_out h = ∥∥₁_elim h sound_prop (λ k. k)

  -- From a consistent tally that the tables hold.
  pub sound_by : (t : Tally) → length prices ≡ 256 → length holders ≡ 256 → length standings ≡ 128 → tally_held noted step lanes prices holders standings n ≡ t →
      Consistent noted.carriers noted.jobs noted.ceiling t → BooksSound noted step lanes prices holders standings n
  sound_by t p h s e c = record { prices_long = p; holders_long = h; standings_long = s; consistent = subst (Consistent noted.carriers noted.jobs noted.ceiling) (sym e) c }
