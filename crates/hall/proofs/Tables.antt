-- The tables of the books and the tally that they hold.
use Rattle.std.proofs.Common.{◌≡◌, ℕ, zero, suc, ◌^◌, ◌<◌, ◌≤◌, List, [], ◌∷◌, get_or, take, set, replicate, Some, None, Option, refl, ap, ◌∙◌, subst, arith}
use mathlib.Core.HLevel.{is_prop→PathP}
use mathlib.Core.Logic.{∥∥₁_prop}
use Rattle.std.proofs.lemmas.List.{take-replicate, get_or-take, get_or_default}
use Rattle.sources.specs.Meaning.{Meaning}
use Rattle.auction.specs.declared.bidding.Best.{Best}
use Rattle.auction.specs.declared.bidding.Counts.{Counts}
use Rattle.auction.specs.declared.bidding.Standing.{Standing}
use Rattle.auction.specs.declared.bidding.Standing.TheVariants.{Waiting, Bidding, Served, Out}
use Rattle.auction.specs.Tally.{Tally, standing_at}
use Rattle.auction.specs.Rules.{no_counts, tally_at_start, freed, with_standing}
use Rattle.auction.specs.Standings.{BidSound, StandingSound}
use Rattle.auction.specs.Consistent.{Consistent, Limits}
use Rattle.auction.proofs.Keeping.{at_start_consistent}
use Rattle.hall.specs.declared.books.Books.{Books}
use Rattle.sources.specs.declared.records.Heading.{Heading}
use Rattle.hall.specs.BooksSound.{BooksSound, tally_held}
use Rattle.hall.specs.InBooks.{NotedOf, tally_in}
use Rattle.hall.proofs.Keeps.{sound_out, sound_by}

pub same_tally : (s t : Tally) → s.step ≡ t.step → s.lanes ≡ t.lanes → s.prices ≡ t.prices → s.holders ≡ t.holders → s.standings ≡ t.standings → s.counts ≡ t.counts → s ≡ t
same_tally s t a b c d e f = λ i. record { step = a i; lanes = b i; prices = c i; holders = d i; standings = e i; counts = f i }

pub take_set_any : {X : Type 0} (n : ℕ) (xs : List X) (i : ℕ) (x : X) → take n (set xs i x) ≡ set (take n xs) i x
take_set_any zero xs i x = refl
take_set_any (suc n) [] i x = refl
take_set_any (suc n) (y ∷ xs) zero x = refl
take_set_any (suc n) (y ∷ xs) (suc i) x = ap (λ t. y ∷ t) (take_set_any n xs i x)

pub take-freed : (n : ℕ) (ss : List Standing) (o : Option ℕ) → take n (freed ss o) ≡ freed (take n ss) o
take-freed n ss None = refl
take-freed n ss (Some j) = take_set_any n ss j Waiting

-- Books with equal fields are equal: the ghost field is a fact.
pub same_books : (a b : Books) → a.noted ≡ b.noted → a.step ≡ b.step → a.lanes ≡ b.lanes → a.prices ≡ b.prices → a.holders ≡ b.holders → a.standings ≡ b.standings → a.counts ≡ b.counts → a ≡ b
same_books a b e1 e2 e3 e4 e5 e6 e7 = λ i. record {
  noted = e1 i;
  step = e2 i;
  lanes = e3 i;
  prices = e4 i;
  holders = e5 i;
  standings = e6 i;
  counts = e7 i;
  sound = is_prop→PathP (λ j. ∥ BooksSound (e1 j) (e2 j) (e3 j) (e4 j) (e5 j) (e6 j) (e7 j) ∥₁) (λ j. ∥∥₁_prop) a.sound b.sound i;
}

-- What is consistent by the numbers that start noted is so by those of the source, and the other way.
pub renoted : (h k : Heading) (t : Tally) → h ≡ k → Consistent h.carriers h.jobs h.ceiling t → Consistent k.carriers k.jobs k.ceiling t
renoted h k t e c = subst (λ z. Consistent z.carriers z.jobs z.ceiling t) e c

pub consistent_in : (b : Books) → Consistent b.noted.carriers b.noted.jobs b.noted.ceiling (tally_in b)
consistent_in b = (sound_out b.sound).consistent

pub few_places : (b : Books) (i : ℕ) → i < b.noted.carriers → i < 128
few_places b i l = omega (arith, l, (consistent_in b).limits.few_carriers)

pub low_prices_in : (m : Meaning) (b : Books) → NotedOf m b → (j : ℕ) → get_or (take m.jobs b.prices) j 0 ≤ 2 ^ 37
low_prices_in m b o j =
    let k = consistent_in b in
    let e : get_or (take b.noted.jobs b.prices) j 0 ≡ get_or (take m.jobs b.prices) j 0 = ap (λ n. get_or (take n b.prices) j 0) (ap (λ h. h.jobs) o) in
    omega (arith, e, k.low_prices j, k.limits.low_ceiling, k.limits.low_step)

-- A carrier's place in the table and in the tally.
pub standing_in : (b : Books) (i : ℕ) → i < b.noted.carriers → standing_at (tally_in b) i ≡ get_or b.standings i Waiting
standing_in b i l =
    get_or-take b.noted.carriers b.standings i Out l ∙ get_or_default b.standings i Out Waiting (omega (arith, few_places b i l, (sound_out b.sound).standings_long))

standing_wide : (jobs ceiling : ℕ) (s : Standing) → jobs ≤ 256 → ceiling ≤ 2 ^ 36 → StandingSound jobs ceiling s → StandingSound 256 (2 ^ 36) s
standing_wide jobs ceiling Waiting j c h = h
standing_wide jobs ceiling (Bidding b) j c h = wide b.best h
  where
    wide : (o : Option Best) → BidSound jobs ceiling b.runner_up o → BidSound 256 (2 ^ 36) b.runner_up o
    wide None h = h
    wide (Some x) h = record { known = omega (arith, h.known, j); low_worth = omega (arith, h.low_worth, c); low_net = h.low_net; low_runner = h.low_runner }
standing_wide jobs ceiling (Served h) j c k = omega (arith, k, c)
standing_wide jobs ceiling Out j c h = h

-- What is known of a standing in the table.
pub standing_sound : (b : Books) (i : ℕ) → i < b.noted.carriers → StandingSound 256 (2 ^ 36) (get_or b.standings i Waiting)
standing_sound b i l =
    let k = consistent_in b in
    standing_wide b.noted.jobs b.noted.ceiling (get_or b.standings i Waiting) k.limits.few_jobs k.limits.low_ceiling
    (subst (StandingSound b.noted.jobs b.noted.ceiling) (standing_in b i l) (k.sound i))

-- A standing in the table is one in the tally.
pub with_standing_in : (b : Books) (i : ℕ) (s : Standing) (n : Counts) →
    tally_held b.noted b.step b.lanes b.prices b.holders (set b.standings i s) n ≡ with_standing i s n (tally_in b)
with_standing_in b i s n =
    same_tally (tally_held b.noted b.step b.lanes b.prices b.holders (set b.standings i s) n) (with_standing i s n (tally_in b)) refl refl refl refl
    (take_set_any b.noted.carriers b.standings i s) refl

-- ---- new books

pub all_zero : (n : Counts) → n.summonses ≡ 0 → n.awards ≡ 0 → n.stales ≡ 0 → n.outs ≡ 0 → n ≡ no_counts
all_zero n a b c d = λ i. record { summonses = a i; awards = b i; stales = c i; outs = d i }

module _ (h : Heading) (step lanes : ℕ) (lim : Limits h.carriers h.jobs h.ceiling step lanes) (n : Counts) (zero-is : n ≡ no_counts) where
  pub at_start_is : tally_held h step lanes (replicate 256 0) (replicate 256 None) (replicate 128 Waiting) n ≡ tally_at_start h.carriers h.jobs step lanes
  unfolding tally_at_start
  at_start_is =
      same_tally (tally_held h step lanes (replicate 256 0) (replicate 256 None) (replicate 128 Waiting) n) (tally_at_start h.carriers h.jobs step lanes) refl refl
      (take-replicate h.jobs 256 0 lim.few_jobs)
      (take-replicate h.jobs 256 None lim.few_jobs)
      (take-replicate h.carriers 128 Waiting lim.few_carriers) zero-is

  pub at_start_keeps : BooksSound h step lanes (replicate 256 0) (replicate 256 None) (replicate 128 Waiting) n
  at_start_keeps = sound_by (tally_at_start h.carriers h.jobs step lanes) refl refl refl at_start_is (at_start_consistent h.carriers h.jobs h.ceiling step lanes lim)
