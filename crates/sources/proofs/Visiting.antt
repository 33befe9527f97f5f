-- What a visitor is once it was shown a part of a row, and of what entries of a table rows are made.
use Rattle.std.proofs.Common.{◌≡◌, ℕ, ◌+◌, ◌-◌, ◌*◌, ◌%◌, ◌^◌, ◌<◌, ◌≤◌, min, List, [], zero, suc, map, length, get_or, take, drop, fold, sym, refl, ap, ◌∙◌, arith, length-drop}
use Rattle.std.proofs.Math.Nat.{mod-eq_of_lt}
use Rattle.std.proofs.lemmas.Nat.{mul-lt}
use Rattle.std.proofs.Math.ListN.{get_or-map}
use Rattle.std.proofs.lemmas.List.{take_min, drop_min, get_or-drop}
use Rattle.std.specs.List.{AllByRecursion}
use Rattle.std.proofs.ByRecursion.{All-take, All-drop}
use Rattle.std.proofs.Math.Seq.{drop-cons}
use Rattle.std.proofs.lemmas.List.Sums.{fold_more}
use Rattle.sources.specs.Meaning.{Meaning, row_of}
use Rattle.sources.specs.Layers.{revalued_entry, revalued_row, revalued, scaled}
use Rattle.sources.specs.declared.records.Entry.{Entry}
use Rattle.sources.specs.declared.records.Heading.{Heading}
use Rattle.sources.specs.Sheets.{no_entry, pair_of, sheet_rows, sheet_entry, sheet_of}

-- So many places from one on, as far as there are such places.
pub cut : {X : Type 0} (xs : List X) (from count start : ℕ) → start ≡ min from (length xs) → take (min count (length xs - start)) (drop start xs) ≡ take count (drop from xs)
cut xs from count start e =
    ap (λ k. take (min count k) (drop start xs)) (sym (length-drop start xs)) ∙ take_min count (drop start xs)
    ∙ ap (take count) (ap (λ k. drop k xs) e ∙ drop_min from xs)

-- One more entry of the row.
pub shown_more : {V X : Type 0} (f : V → X → V) (v : V) (row : List X) (start index next : ℕ) (d : X) → start ≤ index → index < length row → next ≡ index + 1 →
    f (fold f v (take (index - start) (drop start row))) (get_or row index d) ≡ fold f v (take (next - start) (drop start row))
shown_more f v row start index next d l inside e =
    let at : start + (index - start) ≡ index = omega arith in
    let n : (index - start) + 1 ≡ next - start = omega arith in
    ap (f (fold f v (take (index - start) (drop start row)))) (ap (λ j. get_or row j d) (sym at) ∙ sym (get_or-drop start row (index - start) d))
    ∙ sym (fold_more f v (drop start row) (index - start) d (omega (arith, length-drop start row)))
    ∙ ap (λ k. fold f v (take k (drop start row))) n

-- What holds of a row's entries holds of those of a part.
pub all_in_part : {X : Type 0} (P : X → Type 0) (from count : ℕ) (xs : List X) → AllByRecursion P xs → AllByRecursion P (take count (drop from xs))
all_in_part P from count xs a = All-take P count (drop from xs) (All-drop P from xs a)

-- The product of a small worth neither wraps nor reaches 2 ^ 60.
pub small_product : (factor w : ℕ) → factor < 2 ^ 32 → w < 2 ^ 28 → (factor * w) % 2 ^ 64 ≡ scaled factor w
small_product factor w f l =
    let k = mul-lt factor w (2 ^ 32) (2 ^ 28) f l in
    mod-eq_of_lt (omega (arith, k)) ∙ omega (arith, k)

-- ---- entries that are made of those of a table

-- Any place of a layer's row, with (0, 0) where there is none.
pub entry_revalued : (h : ℕ → ℕ) → h 0 ≡ 0 → (c : ℕ) (m : Meaning) (i k : ℕ) →
    get_or (row_of (revalued h c m) i) k (0, 0) ≡ revalued_entry h (get_or (row_of m i) k (0, 0))
entry_revalued h z c m i k =
    ap (λ r. get_or r k (0, 0)) (get_or-map (revalued_row h) m.rows i [])
    ∙ ap (λ w. get_or (revalued_row h (row_of m i)) k (0, w)) (sym z)
    ∙ get_or-map (revalued_entry h) (row_of m i) k (0, 0)

-- Any place of a sheet's row, likewise.
pub entry_paired : (h : Heading) (starts : List ℕ) (entries : List Entry) (i k : ℕ) →
    pair_of (sheet_entry h starts entries i k) ≡ get_or (row_of (sheet_of h starts entries) i) k (0, 0)
entry_paired h starts entries i k =
    let rows = sheet_rows h starts entries in
    sym (ap (λ r. get_or r k (0, 0)) (get_or-map (map pair_of) rows i []) ∙ get_or-map pair_of (get_or rows i []) k no_entry)

-- ---- entries one after the other

-- So many entries from one on that is k behind a place.
abbrev places : {V X : Type 0} (f : V → X → V) (xs : List X) (d : X) (v : V) (from k n : ℕ) → V
places f xs d v from k zero = v
places f xs d v from k (suc n) = places f xs d (f v (get_or xs (from + k) d)) from (suc k) n

pub places_shown : {V X : Type 0} (f : V → X → V) (xs : List X) (d : X) (v : V) (from k n : ℕ) → from + k + n ≤ length xs → places f xs d v from k n ≡ fold f v (take n (drop (from + k) xs))
places_shown f xs d v from k zero l = refl
places_shown f xs d v from k (suc n) l =
    let next : from + suc k ≡ suc (from + k) = omega arith in
    places_shown f xs d (f v (get_or xs (from + k) d)) from (suc k) n (omega (arith, l))
    ∙ ap (λ j. fold f (f v (get_or xs (from + k) d)) (take n (drop j xs))) next
    ∙ ap (λ ys. fold f v (take (suc n) ys)) (sym (drop-cons xs (from + k) d (omega (arith, l))))
