-- What a job is worth through a layer, and what a pile of two layers means.
use Rattle.std.proofs.Common.{◌≡◌, ℕ, zero, suc, ◌^◌, min, Bool, true, false, cond, eqb, ltb, List, [], ◌∷◌, map, get_or, Some, None, Option, sym, refl, ap, ◌∙◌, mul-zero}
use Rattle.std.specs.Option.{option_map}
use Rattle.std.proofs.lemmas.Bool.{cond_both}
use Rattle.sources.specs.Meaning.{Meaning, entry_at, worth_in, worth_of}
use Rattle.sources.specs.Layers.{revalued_entry, revalued_row, revalued, floored, floor_of, scaled, times_of, FloorThenTimes}
use Rattle.sources.specs.Laws.LayersSound.{row_len-revalued, entry_at-revalued}

module _ (h : ℕ → ℕ) (none : h 0 ≡ 0) where
  through_cond : (b : Bool) (w x y : ℕ) → x ≡ h y → cond b (h w) x ≡ h (cond b w y)
  through_cond true w x y e = refl
  through_cond false w x y e = e

  in_row : (row : List (ℕ × ℕ)) (j : ℕ) → worth_in (revalued_row h row) j ≡ h (worth_in row j)
  in_row [] j = sym none
  in_row (e ∷ row) j = through_cond (eqb e.0 j) e.1 (worth_in (revalued_row h row) j) (worth_in row j) (in_row row j)

  in_rows : (rows : List (List (ℕ × ℕ))) (i j : ℕ) → worth_in (get_or (map (revalued_row h) rows) i []) j ≡ h (worth_in (get_or rows i []) j)
  in_rows [] i j = sym none
  in_rows (row ∷ rows) zero j = in_row row j
  in_rows (row ∷ rows) (suc i) j = in_rows rows i j

  -- a layer that keeps worth 0 passes each job's worth through its function
  pub worth-revalued : (c : ℕ) (m : Meaning) (i j : ℕ) → worth_of (revalued h c m) i j ≡ h (worth_of m i j)
  worth-revalued c m i j = in_rows m.rows i j

pub worth_floor : (f : ℕ) (m : Meaning) (i j : ℕ) → worth_of (floor_of f m) i j ≡ floored f (worth_of m i j)
worth_floor f m = worth-revalued (floored f) (cond_both (ltb 0 f) 0 0 (λ x. x ≡ 0) (λ _. refl) (λ _. refl)) m.ceiling m

pub worth_times : (g : ℕ) (m : Meaning) (i j : ℕ) → worth_of (times_of g m) i j ≡ scaled g (worth_of m i j)
worth_times g m = worth-revalued (scaled g) (ap (λ n. min n (2 ^ 60)) (mul-zero g)) (scaled g m.ceiling) m

mapped_mapped : {X Y Z : Type 0} (f : Y → Z) (g : X → Y) (o : Option X) → option_map f (option_map g o) ≡ option_map (λ x. f (g x)) o
mapped_mapped f g None = refl
mapped_mapped f g (Some x) = refl

pub floor_then_times : (f g : ℕ) (m : Meaning) → FloorThenTimes f g m (times_of g (floor_of f m))
floor_then_times f g m = record {
  carriers = refl;
  jobs = refl;
  ceiling = refl;
  lengths = λ i. row_len-revalued (scaled g) (scaled g m.ceiling) (floor_of f m) i ∙ row_len-revalued (floored f) m.ceiling m i;
  entries = λ i k. entry_at-revalued (scaled g) (scaled g m.ceiling) (floor_of f m) i k
      ∙ ap (option_map (revalued_entry (scaled g))) (entry_at-revalued (floored f) m.ceiling m i k)
      ∙ mapped_mapped (revalued_entry (scaled g)) (revalued_entry (floored f)) (entry_at m i k);
}
