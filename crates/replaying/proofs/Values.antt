-- Decimal numbers in words.
use Rattle.std.proofs.Common.{◌≡◌, ℕ, zero, suc, ◌^◌, ◌<◌, ◌≤◌, true, false, eqb, leb, ltb, List, [], ◌∷◌, length, get_or, Some, None, Ok, Err, Result, sym, refl, ap, ◌∙◌, subst, arith, rules}
use Rattle.std.proofs.lemmas.Bool.{and_from, and_left, and_parts, both_ways, cond-true, cond-false, eq-eqb, false_from_ne_true, leb-true, ltb-true, lt-ltb, ne_eqb}
use Rattle.std.proofs.lemmas.Bool.Decides.{nat_tests}
use Rattle.std.proofs.lemmas.Option.{none-some, same_Some}
use Rattle.std.proofs.lemmas.Str.{IsUtf8-from_ascii}
use Rattle.std.proofs.lemmas.Str.Parse.{IsNumeralModel, numerals_by_fold, parse_plain, tells_all_ascii_digits}
use Rattle.std.specs.Char.{is_ascii_digit}
use Rattle.std.specs.List.{starts_with}
use Rattle.std.specs.Result.{MatchResult, OkIff, result_ok}
use Rattle.std.specs.Str.{IsUtf8, all_ascii_digits}
use Rattle.std.specs.Str.Parse.{ParsesUnsigned}
use Rattle.replaying.specs.Numerals.{number_in, value_on}

pub own : IsNumeralModel (λ ds. all_ascii_digits ds ≡ true) (value_on 0)
unfolding value_on
own = numerals_by_fold _ tells_all_ascii_digits value_on (search rules)

-- whether a text begins with a byte
pub begins : (c : ℕ) (bs : List ℕ) → 0 < c → starts_with eqb bs (c ∷ []) ≡ eqb (get_or bs 0 0) c
begins c [] h = sym (ne_eqb 0 c (λ e. omega arith))
begins c (b ∷ bs) h = grind (arith, nat_tests)

-- a word that is no number
pub no_digits : (w : List ℕ) → all_ascii_digits w ≡ false → number_in w ≡ None
unfolding number_in
no_digits w e = cond-false _ _ _ (and_left (all_ascii_digits w) _ e)

digits_first : (w : List ℕ) → all_ascii_digits w ≡ true → eqb (get_or w 0 0) 43 ≡ false
digits_first [] h = refl
digits_first (d ∷ ds) h = let low : 48 ≤ d = leb-true 48 d (and_parts (leb 48 d) (leb d 57) (and_parts (is_ascii_digit d) (all_ascii_digits ds) h).0).0 in ne_eqb d 43 (λ e. omega arith)

digits_small : (w : List ℕ) → all_ascii_digits w ≡ true → (i : ℕ) → get_or w i 0 < 128
digits_small [] h i = omega arith
digits_small (d ∷ ds) h zero = let high : d ≤ 57 = leb-true d 57 (and_parts (leb 48 d) (leb d 57) (and_parts (is_ascii_digit d) (all_ascii_digits ds) h).0).1 in omega (arith, high)
digits_small (d ∷ ds) h (suc i) = digits_small ds (and_parts (is_ascii_digit d) (all_ascii_digits ds) h).1 i

pub plus_none : (w : List ℕ) → eqb (get_or w 0 0) 43 ≡ true → number_in w ≡ None
plus_none w e = no_digits w (false_from_ne_true (all_ascii_digits w) (λ h. both_ways (eqb (get_or w 0 0) 43) (digits_first w h) e))

pub not_text : (w : List ℕ) → (IsUtf8 w → ⊥) → number_in w ≡ None
not_text w none = no_digits w (false_from_ne_true (all_ascii_digits w) (λ h. none (IsUtf8-from_ascii w (digits_small w h))))

pub some_value : (w : List ℕ) (n : ℕ) → all_ascii_digits w ≡ true → 0 < length w → value_on 0 w ≡ n → n < 2 ^ 64 → number_in w ≡ Some n
unfolding number_in
some_value w n digits some is fits =
    cond-true _ _ _ (and_from (all_ascii_digits w) _ digits (and_from (ltb 0 (length w)) _ (lt-ltb 0 (length w) some) (lt-ltb (value_on 0 w) (2 ^ 64) (omega arith)))) ∙ ap Some is

no_value : (w : List ℕ) → ((all_ascii_digits w ≡ true) × (0 < length w) × (value_on 0 w < 2 ^ 64) → ⊥) → number_in w ≡ None
unfolding number_in
no_value w none =
    cond-false _ _ _ (false_from_ne_true _ (λ t.
    let p = and_parts (all_ascii_digits w) _ t in
    let q = and_parts (ltb 0 (length w)) _ p.1 in
    none (p.0, ltb-true 0 (length w) q.0, ltb-true (value_on 0 w) (2 ^ 64) q.1)))

is_number : {E : Type 0} (w : List ℕ) (r : Result ℕ E) → OkIff r ((all_ascii_digits w ≡ true) × (0 < length w) × (value_on 0 w < 2 ^ 64)) (value_on 0 w) → result_ok r ≡ number_in w
is_number w (Ok x) h = sym (some_value w x h.0.0 h.0.1 (sym h.1) (omega (arith, h.0.2, h.1)))
is_number w (Err e) h = sym (no_value w h)

-- what the library reads of a word without a sign in front
pub number_read : {E : Type 0} (word text : List ℕ) (r : Result ℕ E) → text ≡ word → starts_with eqb word (43 ∷ []) ≡ false → ParsesUnsigned 64 10 text r → result_ok r ≡ number_in word
number_read word text r is e h =
    let none : eqb (get_or text 0 0) 43 ≡ false = ap (λ w. eqb (get_or w 0 0) 43) is ∙ sym (begins 43 word (omega arith)) ∙ e in
    is_number text r (parse_plain own 64 text r h (λ p. both_ways (eqb (get_or text 0 0) 43) none (eq-eqb (get_or text 0 0) 43 p))) ∙ ap number_in is

-- what a test for text says of bytes that are none, and of others
pub no_text : {T E R : Type 0} (P : T → Type 0) (Q : E → Type 0) (r : Result T E) → MatchResult r P (λ e. R × Q e) → None ≡ result_ok r → R
no_text P Q (Ok x) h e = absurd (none-some x e)
no_text P Q (Err x) h e = h.0

pub some_text : {T E : Type 0} (P : T → Type 0) (Q : E → Type 0) (r : Result T E) (x : T) → MatchResult r P Q → Some x ≡ result_ok r → P x
some_text P Q (Ok y) x h e = subst P (sym (same_Some x y e)) h
some_text P Q (Err y) x h e = absurd (none-some x (sym e))
