-- What a step makes of the tables.
use Rattle.std.proofs.Common.{◌≡◌, ℕ, ◌+◌, ◌-◌, ◌<◌, ◌≤◌, ltb, List, ◌++◌, map, length, take, drop, Ok, Err, Result, sym, refl, ap, ◌∙◌, subst, arith}
use borrow.Rule.Slice.PartMut.{put_mid}
use Rattle.std.proofs.lemmas.List.{drop-drop, length-map, take_all}
use Rattle.std.proofs.lemmas.Bool.{lt-ltb, ltb-true}
use Rattle.refusals.specs.Faults.{fault_of}
use Rattle.refusals.specs.declared.Fault.{Fault}
use Rattle.refusals.specs.declared.Refusal.TheVariants.{NoRowLeft, TooShort}
use Rattle.sources.specs.Meaning.{Meaning}
use Rattle.sources.specs.Tables.{entry_of, heading_of}
use Rattle.sources.specs.declared.records.Entry.{Entry}
use Rattle.sources.specs.declared.records.Heading.{Heading}
use Rattle.sheetfile.specs.Layout.{Row}
use Rattle.sheetfile.specs.Readers.{value_of}
use Rattle.sheetfile.specs.Reading.{row_from, row_in}
use Rattle.sheetfile.specs.States.{Stand, closed_by, headed_by, next_row}
use Rattle.sheetfile.specs.Steps.{and_then, room_for, updated}
use Rattle.numbers.specs.Writing.{over}
use Rattle.sheetfile.specs.Tables.{BeginsWith, HoldsRow, heading_answer, row_count}
use Rattle.sheetfile.specs.declared.loader.Bare.{Bare}
use Rattle.sheetfile.specs.declared.loader.Closed.{Closed}
use Rattle.sheetfile.specs.declared.loader.Headed.{Headed}
use Rattle.sheetfile.specs.declared.loader.Refused.{Refused}
use Rattle.sheetfile.proofs.Steps.{err_not_ok, followed, follows, ok_same, room_there, roomy, tested, tests}

-- a row whose count alone is told
pub row_ok : (r : Result (Row × ℕ) Fault) (n at : ℕ) → row_count r ≡ Ok (n, at) → (row : Row) × (r ≡ Ok (row, at)) × (length row ≡ n)
row_ok (Err d) n at is = err_not_ok d (n, at) is
row_ok (Ok (row, end)) n at is =
    let e = ok_same (length row, end) (n, at) is in
    (row, ap (λ m. Ok (row, m)) (ap (λ (p : ℕ × ℕ). p.1) e), ap (λ (p : ℕ × ℕ). p.0) e)

pub row_err : (r : Result (Row × ℕ) Fault) (e : Fault) → row_count r ≡ Err e → r ≡ Err e
row_err (Err d) e is = let same : d ≡ e = cc in ap Err same
row_err (Ok (row, at)) e is = err_not_ok e (length row, at) (sym is)

pub counted : (r : Result (Row × ℕ) Fault) (n : ℕ) → Ok n ≡ value_of (row_count r) → (row : Row) × (at : ℕ) × (r ≡ Ok (row, at)) × (length row ≡ n)
counted (Err d) n is = err_not_ok d n (sym is)
counted (Ok (row, end)) n is = (row, end, refl, sym (ok_same n (length row) is))

pub not_counted : (r : Result (Row × ℕ) Fault) (e : Fault) → Err e ≡ value_of (row_count r) → r ≡ Err e
not_counted (Err d) e is = let same : d ≡ e = cc in ap Err same
not_counted (Ok (row, end)) e is = err_not_ok e (length row) is

module _ {A : Type 0} (r : Result A Fault) where
  pub updated_err : {X : Type 0} (e : Fault) (x : X) (f : A → X) → r ≡ Err e → x ≡ updated r x f
  updated_err e x f is = sym (ap (λ q. updated q x f) is)

  pub updated_ok : {X : Type 0} (a : A) (x : X) (f : A → X) → r ≡ Ok a → f a ≡ updated r x f
  updated_ok a x f is = sym (ap (λ q. updated q x f) is)

-- what an accepted row keeps to
pub row_accepted : (l : Stand) (starts room : ℕ) (x : Row × ℕ) → next_row l starts room ≡ Ok x
    → (row_from l.reader.bytes.now l.heading l.reader.at ≡ Ok x) × (length x.0 ≤ room - l.used) × (l.rows + 2 ≤ starts) × (l.rows < l.heading.carriers)
row_accepted l starts room x is =
    let t = tested (ltb l.rows l.heading.carriers) (and_then (row_in l.reader.bytes.now l.heading room l.used l.reader.at) (λ r. room_for (fault_of TooShort) (l.rows + 2) starts r)) (fault_of NoRowLeft) x is in
    let f = followed (row_in l.reader.bytes.now l.heading room l.used l.reader.at) (λ r. room_for (fault_of TooShort) (l.rows + 2) starts r) x t.1 in
    let g = followed (row_from l.reader.bytes.now l.heading l.reader.at) (λ r. room_for (fault_of TooShort) (length r.0) (room - l.used) r) f.0 f.1 in
    let p = roomy (fault_of TooShort) (l.rows + 2) starts f.0 x f.2 in
    let q = roomy (fault_of TooShort) (length g.0.0) (room - l.used) g.0 f.0 g.2 in
    let same : g.0 ≡ x = q.1 ∙ p.1 in
    (g.1 ∙ ap (λ (y : Row × ℕ). Ok y) same, subst (λ (y : Row × ℕ). length y.0 ≤ room - l.used) same q.0, p.0, ltb-true l.rows l.heading.carriers t.0)

-- a row that is there is accepted where there is room
pub row_accepts : (l : Stand) (starts room : ℕ) (x : Row × ℕ) → row_from l.reader.bytes.now l.heading l.reader.at ≡ Ok x → l.rows < l.heading.carriers → l.rows + 2 ≤ starts → length x.0 ≤ room - l.used → next_row l starts room ≡ Ok x
row_accepts l starts room x is inside enough few =
    tests (ltb l.rows l.heading.carriers) (and_then (row_in l.reader.bytes.now l.heading room l.used l.reader.at) (λ r. room_for (fault_of TooShort) (l.rows + 2) starts r)) (Err (fault_of NoRowLeft)) (lt-ltb l.rows l.heading.carriers inside)
    ∙ follows (row_in l.reader.bytes.now l.heading room l.used l.reader.at) (λ r. room_for (fault_of TooShort) (l.rows + 2) starts r) x (Ok x)
    (follows (row_from l.reader.bytes.now l.heading l.reader.at) (λ r. room_for (fault_of TooShort) (length r.0) (room - l.used) r) x (Ok x) is (room_there (fault_of TooShort) (length x.0) (room - l.used) x few))
    (room_there (fault_of TooShort) (l.rows + 2) starts x enough)

-- a table of a row's length that holds the row
pub holds_whole : (table : List Entry) (row : Row) (at : ℕ) (r : Result (Row × ℕ) Fault) → r ≡ Ok (row, at) → length table ≡ length row → HoldsRow r table → table ≡ map entry_of row
holds_whole table row at r is long holds =
    let b : BeginsWith table row = subst (λ q. HoldsRow q table) is holds in
    sym (take_all (length row) table (omega arith)) ∙ b ∙ take_all (length table) (map entry_of row) (omega (arith, length-map row entry_of))

-- a write to a part of a table
pub put_over : (xs ys zs : List Entry) (a n : ℕ) → ys ≡ zs → n ≡ a + length zs → put_mid a (n - a) xs ys ≡ over xs a zs
put_over xs ys zs a n same long =
    let k : n - a ≡ length zs = omega arith in
    ap (λ l. put_mid a (n - a) xs l) same ∙ ap (λ m. take a xs ++ (zs ++ drop m (drop a xs))) k ∙ ap (λ l. take a xs ++ (zs ++ l)) (drop-drop (length zs) a xs)

-- the heading that is answered
pub heading_err : (r : Result Meaning Fault) (e : Fault) → Err e ≡ heading_answer r → r ≡ Err e
heading_err (Err d) e is = let same : d ≡ e = cc in ap Err same
heading_err (Ok m) e is = err_not_ok e (heading_of m) is

pub heading_ok : (r : Result Meaning Fault) (h : Heading) → Ok h ≡ heading_answer r → (m : Meaning) × (r ≡ Ok m) × (h ≡ heading_of m)
heading_ok (Err e) h is = err_not_ok e h (sym is)
heading_ok (Ok m) h is = (m, refl, ok_same h (heading_of m) is)

-- a loader with a heading
pub headed_ok : (b : Bare) (r : Result (Heading × ℕ) Fault) (l : Stand) → Ok l ≡ headed_by b r → (x : Heading × ℕ) × (r ≡ Ok x) × (l ≡ record { reader = record { bytes = b.bytes; at = x.1 }; heading = x.0; rows = 0; used = 0 })
headed_ok b (Err e) l is = absurd (let z : ◌≡◌ {A = ℕ} 0 1 = cc in omega arith)
headed_ok b (Ok (h, at)) l is = ((h, at), refl, cc)

pub headed_err : (b : Bare) (r : Result (Heading × ℕ) Fault) (back : Refused Bare) → Err back ≡ headed_by b r → r ≡ Err back.fault
headed_err b (Err e) back is = let same : back ≡ record { loader = b; fault = e } = cc in ap (λ (x : Refused Bare). Err x.fault) (sym same)
headed_err b (Ok (h, at)) back is = absurd (let z : ◌≡◌ {A = ℕ} 0 1 = cc in omega arith)

-- a loader that is not closed
pub closed_ok : (l : Headed) (r : Result (Unit {0}) Fault) (k : Closed) → Ok k ≡ closed_by l r → k.heading ≡ l.heading
closed_ok l (Err e) k is = absurd (let z : ◌≡◌ {A = ℕ} 0 1 = cc in omega arith)
closed_ok l (Ok u) k is = let same : k ≡ record { heading = l.heading } = cc in ap (λ (x : Closed). x.heading) same

pub closed_err : (l : Headed) (r : Result (Unit {0}) Fault) (back : Refused Headed) → Err back ≡ closed_by l r → r ≡ Err back.fault
closed_err l (Err e) back is = let same : back ≡ record { loader = l; fault = e } = cc in ap (λ (x : Refused Headed). Err x.fault) (sym same)
closed_err l (Ok u) back is = absurd (let z : ◌≡◌ {A = ℕ} 0 1 = cc in omega arith)
