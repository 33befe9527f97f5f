-- What every layer keeps, and that it is sound over a sound source.
use Rattle.std.specs.Prelude.{◌≡◌, ℕ, ◌+◌, ◌<◌, ◌≤◌, List, [], ◌∷◌, length, Some, None, Option, nat_lt, refl}
use Rattle.std.proofs.Common.{ap, ◌∙◌, arith, mul-le-mul_left}
use Rattle.std.specs.Option.{option_map, option_and_then}
use Rattle.std.specs.List.{slice_get, AllByRecursion}
use Rattle.std.proofs.lemmas.Bool.{cond_both}
use Rattle.std.proofs.lemmas.List.{length-map}
use Rattle.std.proofs.lemmas.Option.{slice_get-map}
use Rattle.std.proofs.ByRecursion.{All-map, All-weaker}
use Rattle.sources.specs.Meaning.{Meaning, Sound, Rising, row_len, entry_at}
use Rattle.sources.specs.Limits.{highest_worth}
use Rattle.sources.specs.Layers.{revalued_entry, revalued_row, revalued, floored, floor_of, scaled, times_of}

module _ (h : ℕ → ℕ) (c : ℕ) where
  length_in : (o : Option (List (ℕ × ℕ))) → option_map length (option_map (revalued_row h) o) ≡ option_map length o
  length_in None = refl
  length_in (Some row) = ap Some (length-map row (revalued_entry h))

  nth_in : (k : ℕ) (o : Option (List (ℕ × ℕ))) → option_and_then (λ row. slice_get row k) (option_map (revalued_row h) o) ≡ option_map (revalued_entry h) (option_and_then (λ row. slice_get row k) o)
  nth_in k None = refl
  nth_in k (Some row) = slice_get-map (revalued_entry h) row k

  pub row_len-revalued : (m : Meaning) (i : ℕ) → row_len (revalued h c m) i ≡ row_len m i
  row_len-revalued m i = ap (option_map length) (slice_get-map (revalued_row h) m.rows i) ∙ length_in (slice_get m.rows i)

  pub entry_at-revalued : (m : Meaning) (i k : ℕ) → entry_at (revalued h c m) i k ≡ option_map (revalued_entry h) (entry_at m i k)
  entry_at-revalued m i k = ap (option_and_then (λ row. slice_get row k)) (slice_get-map (revalued_row h) m.rows i) ∙ nth_in k (slice_get m.rows i)

  rising_in : (low : ℕ) (row : List (ℕ × ℕ)) → Rising low row → Rising low (revalued_row h row)
  rising_in low [] r = tt
  rising_in low (e ∷ es) r = (r.0, rising_in (e.0 + 1) es r.1)

  -- a layer is sound over a sound source if no worth then passes its ceiling
  pub revalued_sound : (m : Meaning) → Sound m → ((w : ℕ) → w ≤ m.ceiling → h w ≤ c) → c ≤ highest_worth → Sound (revalued h c m)
  revalued_sound m s up small = record {
    counted = length-map m.rows (revalued_row h) ∙ s.counted;
    rising = All-map (Rising 0) (revalued_row h) m.rows (All-weaker (Rising 0) (λ row. Rising 0 (revalued_row h row)) (rising_in 0) m.rows s.rising);
    known = All-map (AllByRecursion (λ e. e.0 < m.jobs)) (revalued_row h) m.rows (All-weaker (AllByRecursion (λ e. e.0 < m.jobs)) (λ row. AllByRecursion (λ e. e.0 < m.jobs) (revalued_row h row)) (λ row k. All-map (λ e. e.0 < m.jobs) (revalued_entry h) row k) m.rows s.known);
    within = All-map (AllByRecursion (λ e. e.1 ≤ c)) (revalued_row h) m.rows (All-weaker (AllByRecursion (λ e. e.1 ≤ m.ceiling)) (λ row. AllByRecursion (λ e. e.1 ≤ c) (revalued_row h row)) (λ row k. All-map (λ e. e.1 ≤ c) (revalued_entry h) row (All-weaker (λ e. e.1 ≤ m.ceiling) (λ e. h e.1 ≤ c) (λ e. up e.1) row k)) m.rows s.within);
    small = small;
  }

floored_le : (f w c : ℕ) → w ≤ c → floored f w ≤ c
floored_le f w c l = cond_both (nat_lt w f) 0 w (λ x. x ≤ c) (λ _. omega arith) (λ _. l)

pub floor_sound : (f : ℕ) (m : Meaning) → Sound m → Sound (floor_of f m)
floor_sound f m k = revalued_sound (floored f) m.ceiling m k (λ w. floored_le f w m.ceiling) k.small

pub times_sound : (g : ℕ) (m : Meaning) → Sound m → Sound (times_of g m)
times_sound g m k = revalued_sound (scaled g) (scaled g m.ceiling) m k (λ w h. omega (arith, mul-le-mul_left g h)) (omega arith)
