-- A list made from a function of the index, read by `slice_get`.
use Rattle.std.specs.Prelude.{◌≡◌, ℕ, ◌<◌, ◌≤◌, map, length, Some, None}
use Rattle.std.proofs.Common.{sym, ap, subst, ◌∙◌, arith}
use Rattle.std.specs.List.{slice_get, range_with_len, AllByRecursion}
use Rattle.std.proofs.lemmas.Option.{slice_get-get_or, slice_get_past}
use Rattle.std.proofs.lemmas.List.FromFn.{length-map-range_with_len, get_or-map-range_with_len}
use Rattle.std.proofs.ByRecursion.{All-from_get_or}

module _ {X : Type 0} (f : ℕ → X) (n : ℕ) where
  pub nth_made : (i : ℕ) → i < n → slice_get (map f (range_with_len 0 n)) i ≡ Some (f i)
  nth_made i l =
      let k : i < length (map f (range_with_len 0 n)) = rw length-map-range_with_len l in
      slice_get-get_or (map f (range_with_len 0 n)) i (f i) k ∙ ap Some (get_or-map-range_with_len f 0 n i i (f i) l (omega arith))

  pub nth_not_made : (i : ℕ) → n ≤ i → slice_get (map f (range_with_len 0 n)) i ≡ None
  nth_not_made i l = slice_get_past (map f (range_with_len 0 n)) i (rw length-map-range_with_len l)

  pub all_made : (P : X → Type 0) → ((i : ℕ) → i < n → P (f i)) → AllByRecursion P (map f (range_with_len 0 n))
  all_made P h =
      All-from_get_or P (map f (range_with_len 0 n)) (f 0) (λ i l.
      let k : i < n = rw length-map-range_with_len at l in
      subst P (sym (get_or-map-range_with_len f 0 n i i (f 0) k (omega arith))) (h i k))
