-- Lines that are put one behind the other, and what carriers hold, added up.
use Rattle.std.proofs.Common.{◌≡◌, ℕ, suc, ◌+◌, ◌/◌, ◌<◌, List, [], ◌∷◌, ◌++◌, map, length, get_or, take, Some, None, Option, sym, ap, ◌∙◌, refl, arith}
use Rattle.std.specs.List.{sum_by}
use Rattle.std.proofs.lemmas.List.Sums.{sum_by-cons}
use Rattle.std.proofs.lemmas.List.{append_assoc, append-nil, length-take-le, take_more}
use Rattle.std.proofs.Math.Nat.{mul-div_cancel, zero-div}
use Rattle.sources.specs.Meaning.{Meaning, row_of, worth_of}
use Rattle.auction.specs.declared.bidding.Standing.{Standing}
use Rattle.auction.specs.declared.bidding.Standing.TheVariants.{Served, Out}
use Rattle.auction.specs.Standings.{job_served}
use Rattle.auction.specs.Laws.{given_worth, worth_along}
use Rattle.pairing.specs.Listing.{carrier_line, carrier_lines}
use Rattle.pairing.specs.Held.{HeldUnderTimes, worth_told}

lines_push : (m : Meaning) (i : ℕ) (ss : List Standing) (s : Standing) → carrier_lines m i (ss ++ s ∷ []) ≡ carrier_lines m i ss ++ carrier_line m (i + length ss) s
lines_push m i [] s =
    let e : i ≡ i + 0 = omega arith in
    append-nil (carrier_line m i s) ∙ ap (λ n. carrier_line m n s) e
lines_push m i (r ∷ ss) s =
    let e : i + 1 + length ss ≡ i + suc (length ss) = omega arith in
    ap (λ l. carrier_line m i r ++ l) (lines_push m (i + 1) ss s ∙ ap (λ n. carrier_lines m (i + 1) ss ++ carrier_line m n s) e)
    ∙ sym (append_assoc (carrier_line m i r) (carrier_lines m (i + 1) ss) (carrier_line m (i + suc (length ss)) s))

-- one carrier more
pub lines_more : (m : Meaning) (ss : List Standing) (i : ℕ) (d : Standing) → i < length ss → carrier_lines m 0 (take i ss) ++ carrier_line m i (get_or ss i d) ≡ carrier_lines m 0 (take (i + 1) ss)
lines_more m ss i d inside =
    let n : 0 + length (take i ss) ≡ i = omega (arith, length-take-le i ss (omega arith)) in
    ap (λ k. carrier_lines m 0 (take i ss) ++ carrier_line m k (get_or ss i d)) (sym n)
    ∙ sym (lines_push m 0 (take i ss) (get_or ss i d)) ∙ ap (carrier_lines m 0) (sym (take_more ss i d inside))

pub along_none : (rows : List (List (ℕ × ℕ))) → worth_along rows [] ≡ 0
along_none [] = refl
along_none (r ∷ rows) = refl

along_past : (p : List (Option ℕ)) → worth_along [] p ≡ 0
along_past p = refl

given_none : (o : Option ℕ) → given_worth [] o ≡ 0
given_none None = refl
given_none (Some j) = refl

-- what a served carrier is told, divided again, is what its job is worth to it on the sheet
pub told_is : (m : Meaning) (ss : List Standing) → HeldUnderTimes m ss → (i : ℕ) (s : Standing) → get_or ss i Out ≡ s → worth_told (length ss + 1) s ≡ given_worth (row_of m i) (job_served s)
told_is m ss timed i (Served h) at =
    ap (λ w. w / (length ss + 1)) (timed i h at) ∙ mul-div_cancel (worth_of m i h.job) {n = length ss + 1} (omega arith)
told_is m ss timed i _ at = zero-div (length ss + 1)

-- what all carriers are told comes to what the pairing is worth
pub along_all : (told : Standing → ℕ) (rows : List (List (ℕ × ℕ))) (ss : List Standing) → ((k : ℕ) → k < length ss → told (get_or ss k Out) ≡ given_worth (get_or rows k []) (job_served (get_or ss k Out))) →
    sum_by told ss ≡ worth_along rows (map job_served ss)
along_all told rows [] h = sym (along_none rows)
along_all told [] (s ∷ ss) h =
    let none = h 0 (omega arith) ∙ given_none (job_served s) in
    let rest = along_all told [] ss (λ k l. h (suc k) (omega arith)) in
    sum_by-cons told s ss ∙ omega (arith, none, rest, along_past (map job_served ss))
along_all told (r ∷ rows) (s ∷ ss) h =
    let head = h 0 (omega arith) in
    let rest = along_all told rows ss (λ k l. h (suc k) (omega arith)) in
    sum_by-cons told s ss ∙ omega (arith, head, rest)
