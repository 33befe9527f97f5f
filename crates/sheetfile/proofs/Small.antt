-- A short file needs no large table of entries: each entry takes two bytes at least.
use Rattle.std.proofs.Common.{◌≡◌, ℕ, zero, suc, ◌+◌, ◌-◌, ◌*◌, ◌<◌, ◌≤◌, Bool, true, false, cond, ltb, leb, eqb, List, [], ◌∷◌, ◌++◌, length, drop, Ok, Err, Result, sym, refl, ap, ◌∙◌, subst, arith, length-drop, ◌⊎◌, ⊎_elim}
use Rattle.std.proofs.lemmas.Bool.{cond-true, cond-false, le-leb, le-ltb}
use Rattle.refusals.specs.Faults.{fault_at, fault_of}
use Rattle.refusals.specs.declared.Fault.{Fault}
use Rattle.refusals.specs.declared.Refusal.{Refusal}
use Rattle.refusals.specs.declared.Refusal.TheVariants.{NumberPadded, TooShort}
use Rattle.numbers.specs.Groups.{before, decoded, decoded_in}
use Rattle.numbers.specs.Reading.{placed, read_at}
use Rattle.sources.specs.Meaning.{Meaning}
use Rattle.sources.specs.declared.records.Heading.{Heading}
use Rattle.sheetfile.specs.Layout.{Row, entries_in, meaning_of}
use Rattle.sheetfile.specs.Reading.{closed_at, entries_from, entry_from, heading_in, job_from, loaded, loaded_within, number_from, row_from, rows_from, worth_from}
use Rattle.sheetfile.specs.Steps.{and_then, prefixed, room_for}
use Rattle.sheetfile.proofs.Steps.{err_not_ok, followed, ok_same, tested}

-- ---- how far a read goes

before_left : (b : ℕ) (bs : List ℕ) (r : Result (ℕ × List ℕ) Refusal) (x : ℕ × List ℕ) → ((y : ℕ × List ℕ) → r ≡ Ok y → length y.1 < length bs) → before b r ≡ Ok x → length x.1 < length bs
unfolding before
before_left b bs (Err e) x short is = err_not_ok e x is
before_left b bs (Ok (n, left)) x short is = go (eqb n 0) is
  where
    go : (t : Bool) → cond {A = Result (ℕ × List ℕ) Refusal} t (Err NumberPadded) (Ok (b - 128 + 128 * n, left)) ≡ Ok x → length x.1 < length bs
    go true e = err_not_ok NumberPadded x e
    go false e = subst (λ (z : ℕ × List ℕ). length z.1 < length bs) (ok_same (b - 128 + 128 * n, left) x e) (short (n, left) refl)

decoded_left : (k : ℕ) (bs : List ℕ) (x : ℕ × List ℕ) → decoded_in k bs ≡ Ok x → length x.1 < length bs
unfolding decoded_in
decoded_left zero bs x is = err_not_ok _ x is
decoded_left (suc k) [] x is = err_not_ok _ x is
decoded_left (suc k) (b ∷ bs) x is = go (λ y h. decoded_left k bs y h) (ltb b 128) is
  where
    go : ((y : ℕ × List ℕ) → decoded_in k bs ≡ Ok y → length y.1 < length bs) → (t : Bool) → cond t (Ok (b, bs)) (before b (decoded_in k bs)) ≡ Ok x → length x.1 < suc (length bs)
    go before true e = subst (λ (z : ℕ × List ℕ). length z.1 < suc (length bs)) (ok_same (b, bs) x e) (omega arith)
    go before false e = omega (arith, before_left b bs (decoded_in k bs) x before e)

read_further : (bs : List ℕ) (at : ℕ) (x : ℕ × ℕ) → read_at bs at ≡ Ok x → (at < x.1) × (x.1 ≤ length bs)
read_further bs at x is = go (decoded (drop at bs)) (λ y h. decoded_left 6 (drop at bs) y h) is
  where
    go : (r : Result (ℕ × List ℕ) Refusal) → ((y : ℕ × List ℕ) → r ≡ Ok y → length y.1 < length (drop at bs)) → placed bs at r ≡ Ok x → (at < x.1) × (x.1 ≤ length bs)
    go (Err e) short h = err_not_ok (fault_at e at) x h
    go (Ok (n, left)) short h =
        let e = ap (λ (p : ℕ × ℕ). p.1) (ok_same (n, length bs - length left) x h) in
        let s = short (n, left) refl in
        let d = length-drop at bs in
        (omega (arith, e, s, d), omega (arith, e))

number_further : (bs : List ℕ) (test : ℕ → Bool) (fault : Fault) (at : ℕ) (x : ℕ × ℕ) → number_from bs test fault at ≡ Ok x → (at < x.1) × (x.1 ≤ length bs)
number_further bs test fault at x is =
    let f = followed (read_at bs at) (λ n. cond (test n.0) (Ok n) (Err fault)) x is in
    let t = tested (test f.0.0) (Ok f.0) fault x f.2 in
    let r = read_further bs at f.0 f.1 in
    let e = ap (λ (p : ℕ × ℕ). p.1) (ok_same f.0 x t.1) in
    (omega (arith, e, r.0), omega (arith, e, r.1))

entry_further : (bs : List ℕ) (h : Heading) (low at : ℕ) (x : (ℕ × ℕ) × ℕ) → entry_from bs h low at ≡ Ok x → (at + 2 ≤ x.1) × (x.1 ≤ length bs)
entry_further bs h low at x is =
    let f = followed (job_from bs h low at) (λ j. and_then (worth_from bs h j.1) (λ w. Ok ((j.0, w.0), w.1))) x is in
    let g = followed (worth_from bs h f.0.1) (λ w. Ok ((f.0.0, w.0), w.1)) x f.2 in
    let p = number_further bs _ _ at f.0 f.1 in
    let q = number_further bs _ _ f.0.1 g.0 g.1 in
    let e = ap (λ (y : (ℕ × ℕ) × ℕ). y.1) (ok_same ((f.0.0, g.0.0), g.0.1) x g.2) in
    (omega (arith, e, p.0, q.0), omega (arith, e, q.1))

prefixed_parts : (e : ℕ × ℕ) (r : Result (Row × ℕ) Fault) (x : Row × ℕ) → prefixed (e ∷ []) r ≡ Ok x → (y : Row × ℕ) × (r ≡ Ok y) × (length x.0 ≡ suc (length y.0)) × (x.1 ≡ y.1)
prefixed_parts e (Err f) x is = err_not_ok f x is
prefixed_parts e (Ok y) x is =
    let same = ok_same ((e ∷ []) ++ y.0, y.1) x is in
    (y, refl, sym (ap (λ (z : Row × ℕ). length z.0) same), sym (ap (λ (z : Row × ℕ). z.1) same))

entries_further : (bs : List ℕ) (h : Heading) (n low at : ℕ) (x : Row × ℕ) → entries_from bs h n low at ≡ Ok x → at ≤ length bs → (at + 2 * length x.0 ≤ x.1) × (x.1 ≤ length bs)
unfolding entries_from
entries_further bs h zero low at x is l =
    let same = ok_same ([], at) x is in
    let a = ap (λ (z : Row × ℕ). length z.0) same in
    let b = ap (λ (z : Row × ℕ). z.1) same in
    (omega (arith, a, b), omega (arith, b, l))
entries_further bs h (suc n) low at x is l =
    let f = followed (entry_from bs h low at) (λ e. prefixed (e.0 ∷ []) (entries_from bs h n (e.0.0 + 1) e.1)) x is in
    let p = prefixed_parts f.0.0 (entries_from bs h n (f.0.0.0 + 1) f.0.1) x f.2 in
    let e = entry_further bs h low at f.0 f.1 in
    let r = entries_further bs h n (f.0.0.0 + 1) f.0.1 p.0 p.1 e.1 in
    (omega (arith, e.0, r.0, p.2, p.3), omega (arith, r.1, p.3))

row_further : (bs : List ℕ) (h : Heading) (at : ℕ) (x : Row × ℕ) → row_from bs h at ≡ Ok x → (at + 2 * length x.0 ≤ x.1) × (x.1 ≤ length bs)
unfolding row_from
row_further bs h at x is =
    let f = followed (read_at bs at) (λ n. entries_from bs h n.0 0 n.1) x is in
    let r = read_further bs at f.0 f.1 in
    let e = entries_further bs h f.0.0 0 f.0.1 x f.2 r.1 in
    (omega (arith, r.0, e.0), e.1)

-- ---- the same rows whatever the room

module _ (bs : List ℕ) (room more : ℕ) (enough : length bs ≤ 2 * room) (also : length bs ≤ 2 * more) where
  roomy_both : (h : Heading) (used at : ℕ) → 2 * used ≤ at → (x : Row × ℕ) → row_from bs h at ≡ Ok x →
      ◌≡◌ {A = Result (Row × ℕ) Fault} (room_for (fault_of TooShort) (length x.0) (room - used) x) (Ok x) × ◌≡◌ {A = Result (Row × ℕ) Fault} (room_for (fault_of TooShort) (length x.0) (more - used) x) (Ok x)
  roomy_both h used at low x is =
      let r = row_further bs h at x is in (
        cond-true {A = Result (Row × ℕ) Fault} (leb (length x.0) (room - used)) _ _ (le-leb (length x.0) (room - used) (omega (arith, r.0, r.1))),
        cond-true {A = Result (Row × ℕ) Fault} (leb (length x.0) (more - used)) _ _ (le-leb (length x.0) (more - used) (omega (arith, r.0, r.1))),
      )

  same_rows : (h : Heading) (n used at : ℕ) → 2 * used ≤ at → rows_from bs h room n used at ≡ rows_from bs h more n used at
  unfolding rows_from
  same_rows h zero used at low = refl
  same_rows h (suc n) used at low = go (λ u a l. same_rows h n u a l) (row_from bs h at) refl
    where
      go : ((u a : ℕ) → 2 * u ≤ a → rows_from bs h room n u a ≡ rows_from bs h more n u a) → (r : Result (Row × ℕ) Fault) → row_from bs h at ≡ r →
          and_then (and_then r (λ r. room_for (fault_of TooShort) (length r.0) (room - used) r)) (λ r. prefixed (r.0 ∷ []) (rows_from bs h room n (used + length r.0) r.1))
          ≡ and_then (and_then r (λ r. room_for (fault_of TooShort) (length r.0) (more - used) r)) (λ r. prefixed (r.0 ∷ []) (rows_from bs h more n (used + length r.0) r.1))
      go next (Err e) is = refl
      go next (Ok x) is =
          let b = roomy_both h used at low x is in
          let f = row_further bs h at x is in
          ap (λ q. and_then q (λ r. prefixed (r.0 ∷ []) (rows_from bs h room n (used + length r.0) r.1))) b.0
          ∙ ap (prefixed (x.0 ∷ [])) (next (used + length x.0) x.1 (omega (arith, f.0, low)))
          ∙ sym (ap (λ q. and_then q (λ r. prefixed (r.0 ∷ []) (rows_from bs h more n (used + length r.0) r.1))) b.1)

  same_loaded : (starts : ℕ) → loaded bs starts room ≡ loaded bs starts more
  unfolding loaded
  same_loaded starts = go (heading_in bs starts)
    where
      go : (r : Result (Heading × ℕ) Fault) →
          and_then r (λ h. and_then (rows_from bs h.0 room h.0.carriers 0 h.1) (λ r. and_then (closed_at bs (entries_in r.0) r.1) (λ _. Ok (meaning_of h.0 r.0))))
          ≡ and_then r (λ h. and_then (rows_from bs h.0 more h.0.carriers 0 h.1) (λ r. and_then (closed_at bs (entries_in r.0) r.1) (λ _. Ok (meaning_of h.0 r.0))))
      go (Err e) = refl
      go (Ok h) = ap (λ q. and_then q (λ r. and_then (closed_at bs (entries_in r.0) r.1) (λ _. Ok (meaning_of h.0 r.0)))) (same_rows h.0 h.0.carriers 0 h.1 (omega arith))

pub room_loaded : (bs : List ℕ) (starts room : ℕ) → starts ≡ 129 → (room ≡ 4096) ⊎ ((length bs ≤ 2 * room) × (room ≤ 4096)) → length bs ≤ 32768 → loaded bs starts room ≡ loaded_within bs
room_loaded bs starts room is enough few =
    ap (λ n. loaded bs n room) is
    ∙ ⊎_elim (λ e. ap (loaded bs 129) e) (λ p. same_loaded bs room 4096 p.0 (omega (arith, p.0, p.1)) 129) enough
    ∙ sym (cond-false {A = Result Meaning Fault} (ltb 32768 (length bs)) _ _ (le-ltb 32768 (length bs) (omega arith)))
