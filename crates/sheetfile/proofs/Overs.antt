-- Writes to parts of a table, one after another.
use Rattle.std.proofs.Common.{◌≡◌, ℕ, suc, ◌+◌, ◌-◌, ◌<◌, ◌≤◌, min, List, [], ◌∷◌, ◌++◌, length, take, drop, set, sym, ap, ◌∙◌, arith}
use Rattle.std.proofs.lemmas.List.{append_assoc, drop-set-lt, take-append-drop, take_more_set}
use Rattle.numbers.specs.Writing.{over}
use Rattle.outputs.proofs.Puts.{splice_then}

module _ {A : Type 0} (xs : List A) where
  pub over_none : (n : ℕ) → over xs n [] ≡ xs
  over_none n = let e : n + 0 ≡ n = omega arith in ap (λ m. take n xs ++ drop m xs) e ∙ take-append-drop n xs

  -- nothing is written where the table has ended
  pub over_end : (zs : List A) (a n : ℕ) → n ≡ min a (length xs) → length zs ≤ length xs - a → over xs n zs ≡ over xs a zs
  over_end [] a n is fits = over_none n ∙ sym (over_none a)
  over_end (z ∷ zs) a n is fits = ap (λ k. over xs k (z ∷ zs)) (omega (arith, is, fits))

  pub over-set : (i : ℕ) (v : A) (zs : List A) → i < length xs → over (set xs i v) (i + 1) zs ≡ over xs i (v ∷ zs)
  over-set i v zs inside =
      let e : i + 1 + length zs ≡ i + suc (length zs) = omega arith in
      ap (λ l. l ++ (zs ++ drop (i + 1 + length zs) (set xs i v))) (take_more_set xs i v inside)
      ∙ append_assoc (take i xs) (v ∷ []) (zs ++ drop (i + 1 + length zs) (set xs i v))
      ∙ ap (λ l. take i xs ++ v ∷ (zs ++ l)) (drop-set-lt (i + 1 + length zs) xs i v (omega arith) ∙ ap (λ n. drop n xs) e)

  pub over-over : (ys zs : List A) (a n : ℕ) → n ≡ length ys → a + n ≤ length xs → over (over xs a ys) (a + n) zs ≡ over xs a (ys ++ zs)
  over-over ys zs a n long fits = ap (λ k. over (over xs a ys) (a + k) zs) long ∙ splice_then xs ys zs a (omega arith)
