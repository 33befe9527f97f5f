-- The total worth is low.
use Rattle.std.proofs.Common.{◌≡◌, ℕ, ◌^◌, ◌<◌, ◌≤◌, length, get_or, take, sum_by, sym, ◌∙◌, subst, arith}
use Rattle.std.proofs.lemmas.List.{get_or-take, length-take-le}
use Rattle.std.proofs.ByRecursion.{All-from_get_or, sum_by_le}
use Rattle.auction.specs.declared.bidding.Standing.{Standing}
use Rattle.auction.specs.declared.bidding.Standing.TheVariants.{Served, Out}
use Rattle.auction.specs.Standings.{worth_served, StandingSound}
use Rattle.auction.specs.Tally.{standing_at}
use Rattle.hall.specs.declared.books.Books.{Books}
use Rattle.hall.specs.InBooks.{tally_in}
use Rattle.hall.proofs.Keeps.{sound_out}
use Rattle.hall.proofs.Tables.{consistent_in}

worth_low : (jobs ceiling : ℕ) (s : Standing) → ceiling ≤ 2 ^ 36 → StandingSound jobs ceiling s → worth_served s ≤ 2 ^ 36
worth_low jobs ceiling (Served h) c k = omega (arith, c, k)
worth_low jobs ceiling _ c k = omega arith

module _ (b : Books) where
  long_enough : b.noted.carriers ≤ length b.standings
  long_enough = omega (arith, (consistent_in b).limits.few_carriers, (sound_out b.sound).standings_long)

  pub worth_bound : (i : ℕ) → i ≤ b.noted.carriers → sum_by worth_served (take i b.standings) ≤ 2 ^ 43
  worth_bound i l =
      let n = length-take-le i b.standings (omega (arith, l, long_enough)) in
      let a = sum_by_le worth_served (2 ^ 36) (take i b.standings) (All-from_get_or (λ s. worth_served s ≤ 2 ^ 36) (take i b.standings) Out (each n)) in
      omega (arith, a, n, l, (consistent_in b).limits.few_carriers)
    where
      each : length (take i b.standings) ≡ i → (k : ℕ) → k < length (take i b.standings) → worth_served (get_or (take i b.standings) k Out) ≤ 2 ^ 36
      each n k q =
          subst (λ s. worth_served s ≤ 2 ^ 36) (get_or-take b.noted.carriers b.standings k Out (omega (arith, n, q, l)) ∙ sym (get_or-take i b.standings k Out (omega (arith, n, q))))
          (worth_low b.noted.jobs b.noted.ceiling (standing_at (tally_in b) k) (consistent_in b).limits.low_ceiling ((consistent_in b).sound k))
