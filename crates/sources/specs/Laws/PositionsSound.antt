-- That places make a sound source.
use Rattle.std.specs.Prelude.{ℕ, zero, suc, ◌+◌, ◌^◌, ◌<◌, ◌≤◌, List, [], ◌∷◌, map, length, slice_index_or}
use Rattle.std.proofs.Common.{arith}
use Rattle.std.specs.List.{range_with_len, AllByRecursion}
use Rattle.std.proofs.lemmas.List.{length-map}
use Rattle.sources.specs.declared.places.Place.{Place}
use Rattle.sources.specs.Meaning.{Sound, Rising}
use Rattle.sources.specs.Travel.{worth_between, no_place, position_row, positions_of}
use Rattle.sources.specs.Laws.Indexed.{all_made}

rising_counted : (f : ℕ → ℕ) (low a n : ℕ) → low ≤ a → Rising low (map (λ j. (j, f j)) (range_with_len a n))
rising_counted f low a zero l = tt
rising_counted f low a (suc n) l = (l, rising_counted f (a + 1) (a + 1) n (omega arith))

all_rows : {X Y : Type 0} (P : Y → Type 0) (f : X → Y) → ((x : X) → P (f x)) → (xs : List X) → AllByRecursion P (map f xs)
all_rows P f h [] = tt
all_rows P f h (x ∷ xs) = (h x, all_rows P f h xs)

pub positions_sound : (carriers jobs : List Place) (reach : ℕ) → reach < 2 ^ 32 → Sound (positions_of carriers jobs reach)
positions_sound carriers jobs reach small = record {
  counted = length-map carriers (position_row reach jobs);
  rising = all_rows (Rising 0) (position_row reach jobs) (λ p. rising_counted (λ j. worth_between reach p (slice_index_or jobs j no_place)) 0 0 (length jobs) (omega arith)) carriers;
  known = all_rows (AllByRecursion (λ e. e.0 < length jobs)) (position_row reach jobs)
      (λ p. all_made (λ j. (j, worth_between reach p (slice_index_or jobs j no_place))) (length jobs) (λ e. e.0 < length jobs) (λ j l. l)) carriers;
  within = all_rows (AllByRecursion (λ e. e.1 ≤ reach)) (position_row reach jobs)
      (λ p. all_made (λ j. (j, worth_between reach p (slice_index_or jobs j no_place))) (length jobs) (λ e. e.1 ≤ reach) (λ j l. omega arith)) carriers;
  small = omega arith;
}
