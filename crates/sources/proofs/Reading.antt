-- What a reader of any source may rely on: its rows, entry by entry.
use Rattle.std.proofs.Common.{◌≡◌, ℕ, zero, suc, ◌+◌, ◌<◌, ◌≤◌, List, [], ◌∷◌, length, get_or, drop, Some, None, Option, sym, refl, ap, ◌∙◌, add-one, drop-cons, arith}
use Rattle.std.specs.Option.{MatchOption, option_map, option_and_then, unwrap_or}
use Rattle.std.specs.List.{slice_get, AllByRecursion}
use Rattle.std.proofs.lemmas.Option.{get_or_from_slice_get, unwrap_or-slice_get}
use Rattle.sources.specs.Meaning.{Meaning, Sound, Rising, row_len, entry_at, row_of}

-- ---- the length of a row, and its entries

len_some : (rows : List (List (ℕ × ℕ))) (i n : ℕ) → option_map length (slice_get rows i) ≡ Some n → n ≡ length (get_or rows i [])
len_some [] i n e = let z : ◌≡◌ {A = ℕ} 0 1 = cc in absurd (omega arith)
len_some (row ∷ rows) zero n e = cc
len_some (row ∷ rows) (suc i) n e = len_some rows i n e

length_read : (rows : List (List (ℕ × ℕ))) (i : ℕ) → unwrap_or (option_map length (slice_get rows i)) 0 ≡ length (get_or rows i [])
length_read [] i = refl
length_read (row ∷ rows) zero = refl
length_read (row ∷ rows) (suc i) = length_read rows i

-- the length that was read, or 0 where no row is, is that of the row
pub row_len_or_zero : (m : Meaning) (i : ℕ) → unwrap_or (row_len m i) 0 ≡ length (row_of m i)
row_len_or_zero m i = length_read m.rows i

pub row_len_some : (m : Meaning) (i n : ℕ) → Some n ≡ row_len m i → n ≡ length (row_of m i)
row_len_some m i n e = len_some m.rows i n (sym e)

row_in : (rows : List (List (ℕ × ℕ))) (i n : ℕ) → option_map length (slice_get rows i) ≡ Some n → slice_get rows i ≡ Some (get_or rows i [])
row_in [] i n e = let z : ◌≡◌ {A = ℕ} 0 1 = cc in absurd (omega arith)
row_in (row ∷ rows) zero n e = refl
row_in (row ∷ rows) (suc i) n e = row_in rows i n e

-- a row that has a length is there
pub row_there : (m : Meaning) (i n : ℕ) → Some n ≡ row_len m i → slice_get m.rows i ≡ Some (row_of m i)
row_there m i n e = row_in m.rows i n (sym e)

entry_in : (rows : List (List (ℕ × ℕ))) (i k : ℕ) → option_and_then (λ row. slice_get row k) (slice_get rows i) ≡ slice_get (get_or rows i []) k
entry_in [] i k = refl
entry_in (row ∷ rows) zero k = refl
entry_in (row ∷ rows) (suc i) k = entry_in rows i k

pub entry_is : (m : Meaning) (i k : ℕ) → entry_at m i k ≡ slice_get (row_of m i) k
entry_is m i k = entry_in m.rows i k

nth_none : {X : Type 0} (xs : List X) (k : ℕ) → slice_get xs k ≡ None → length xs ≤ k
nth_none [] k e = omega arith
nth_none (x ∷ xs) zero e = let z : ◌≡◌ {A = ℕ} 0 1 = cc in absurd (omega arith)
nth_none (x ∷ xs) (suc k) e = omega (arith, nth_none xs k e)

pub entry_some : (m : Meaning) (i k : ℕ) (e : ℕ × ℕ) → Some e ≡ entry_at m i k → slice_get (row_of m i) k ≡ Some e
entry_some m i k e h = sym (entry_is m i k) ∙ sym h

pub entry_none : (m : Meaning) (i k : ℕ) → None ≡ entry_at m i k → slice_get (row_of m i) k ≡ None
entry_none m i k h = sym (entry_is m i k) ∙ sym h

-- the entry that was read at a place is the one that stands there in the row
pub entry_read : (m : Meaning) (i k : ℕ) (e : ℕ × ℕ) → Some e ≡ entry_at m i k → get_or (row_of m i) k (0, 0) ≡ e
entry_read m i k e h = get_or_from_slice_get (row_of m i) k e (0, 0) (entry_some m i k e h)

-- the entry at a place, or a pair of zeros where the row has none
pub entry_or : (m : Meaning) (i k : ℕ) → unwrap_or (entry_at m i k) (0, 0) ≡ get_or (row_of m i) k (0, 0)
entry_or m i k = ap (λ o. unwrap_or o (0, 0)) (entry_is m i k) ∙ unwrap_or-slice_get (row_of m i) k (0, 0)

-- where none was read, the row ends
pub entry_past : (m : Meaning) (i k : ℕ) → None ≡ entry_at m i k → length (row_of m i) ≤ k
entry_past m i k h = nth_none (row_of m i) k (entry_none m i k h)

-- what is left of a row before and after its entry at k was asked for
pub entry_step : (m : Meaning) (i k l : ℕ) (r : Option (ℕ × ℕ)) → r ≡ entry_at m i k → k < length (row_of m i) → l ≡ k + 1 → MatchOption r ((drop k (row_of m i) ≡ []) × (drop l (row_of m i) ≡ [])) (λ x. drop k (row_of m i) ≡ x ∷ drop l (row_of m i))
entry_step m i k l None e inside next = absurd (omega (arith, entry_past m i k e))
entry_step m i k l (Some x) e inside next =
    let d = drop-cons (row_of m i) k (0, 0) inside in
    let at = entry_read m i k x e in
    simp (next, d, at, add-one)

-- ---- what soundness says of a row

-- what holds of each element and of d holds of what is read at a place, with d where there is none
pub all_at : {X : Type 0} (P : X → Type 0) (d : X) → P d → (xs : List X) (i : ℕ) → AllByRecursion P xs → P (get_or xs i d)
all_at P d none [] i h = none
all_at P d none (x ∷ xs) zero h = h.0
all_at P d none (x ∷ xs) (suc i) h = all_at P d none xs i h.1

module _ (m : Meaning) (s : Sound m) (i : ℕ) where
  pub row_rising : Rising 0 (row_of m i)
  row_rising = all_at (Rising 0) [] tt m.rows i s.rising

  pub row_known : AllByRecursion (λ e. e.0 < m.jobs) (row_of m i)
  row_known = all_at (AllByRecursion (λ e. e.0 < m.jobs)) [] tt m.rows i s.known

  pub row_within : AllByRecursion (λ e. e.1 ≤ m.ceiling) (row_of m i)
  row_within = all_at (AllByRecursion (λ e. e.1 ≤ m.ceiling)) [] tt m.rows i s.within

-- a row is no longer than there are jobs
rising_length : (jobs low : ℕ) (row : List (ℕ × ℕ)) → Rising low row → AllByRecursion (λ e. e.0 < jobs) row → low ≤ jobs → low + length row ≤ jobs
rising_length jobs low [] r a l = omega arith
rising_length jobs low (e ∷ es) r a l = let i = rising_length jobs (e.0 + 1) es r.1 a.1 (omega arith) in let h = r.0 in omega arith

pub row_length : (m : Meaning) → Sound m → (i : ℕ) → length (row_of m i) ≤ m.jobs
row_length m s i = omega (arith, rising_length m.jobs 0 (row_of m i) (row_rising m s i) (row_known m s i) (omega arith))

-- the jobs of a rising row rise from place to place
pub rising_above : (low : ℕ) (row : List (ℕ × ℕ)) → Rising low row → (k : ℕ) → k < length row → low ≤ (get_or row k (0, 0)).0
rising_above low [] r k l = absurd (omega arith)
rising_above low (e ∷ row) r zero l = r.0
rising_above low (e ∷ row) r (suc k) l = let h = r.0 in omega (arith, rising_above (e.0 + 1) row r.1 k (omega arith))

pub rising_apart : (low : ℕ) (row : List (ℕ × ℕ)) → Rising low row → (j k : ℕ) → j < k → k < length row → (get_or row j (0, 0)).0 < (get_or row k (0, 0)).0
rising_apart low [] r j k a l = absurd (omega arith)
rising_apart low (e ∷ row) r j zero a l = absurd (omega arith)
rising_apart low (e ∷ row) r zero (suc k) a l = omega (arith, rising_above (e.0 + 1) row r.1 k (omega arith))
rising_apart low (e ∷ row) r (suc j) (suc k) a l = rising_apart (e.0 + 1) row r.1 j k (omega arith) (omega arith)
