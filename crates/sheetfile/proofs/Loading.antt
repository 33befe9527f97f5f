-- A load under way.
use Rattle.std.proofs.Common.{◌≡◌, ℕ, zero, suc, ◌+◌, ◌-◌, ◌<◌, ◌≤◌, ltb, List, [], ◌∷◌, map, length, set, Ok, Err, sym, refl, ap, ◌∙◌, subst, arith}
use Rattle.std.proofs.lemmas.List.{length-map, length-set}
use Rattle.std.proofs.lemmas.Bool.{cond-false, le-ltb, lt-ltb}
use Rattle.refusals.specs.Faults.{fault_of}
use Rattle.refusals.specs.declared.Refusal.TheVariants.{NoRowLeft, RowsMissing, TooShort}
use Rattle.sources.specs.Meaning.{Meaning}
use Rattle.sources.specs.Tables.{ends_of, entries_of, entry_of, heading_of}
use Rattle.sources.specs.declared.records.Entry.{Entry}
use Rattle.sources.specs.declared.records.Heading.{Heading}
use Rattle.sheetfile.specs.Layout.{Row, entries_in, meaning_of}
use Rattle.sheetfile.specs.Reading.{closed_at, heading_from, heading_in, loaded, row_in, rows_from}
use Rattle.sheetfile.specs.States.{Stand, after_row, closing, entries_after_row, headed_by, next_row, starts_after_row}
use Rattle.sheetfile.specs.Steps.{and_then, prefixed, room_for, updated}
use Rattle.numbers.specs.Writing.{over}
use Rattle.sheetfile.specs.Tables.{heading_answer}
use Rattle.sheetfile.specs.declared.loader.Bare.{Bare}
use Rattle.sheetfile.proofs.Overs.{over_none, over-over, over-set}
use Rattle.sheetfile.proofs.Sheets.{load_parts, row_fits, rows_none}
use Rattle.sheetfile.proofs.Steps.{followed, follows, fronts, ok_same, room_there, roomy, tests}
use Rattle.sheetfile.proofs.Tables.{headed_ok, heading_ok, updated_ok}

-- the first of several rows
pub rows_first : (bs : List ℕ) (h : Heading) (room n used at : ℕ) (left : List Row) (end : ℕ) → rows_from bs h room n used at ≡ Ok (left, end) → 0 < n
    → (row : Row) × (next : ℕ) × (rest : List Row) × (left ≡ row ∷ rest) × (row_in bs h room used at ≡ Ok (row, next)) × (rows_from bs h room (n - 1) (used + length row) next ≡ Ok (rest, end))
unfolding rows_from
rows_first bs h room zero used at left end is some = absurd (omega arith)
rows_first bs h room (suc n) used at left end is some =
    let f = followed (row_in bs h room used at) (λ r. prefixed (r.0 ∷ []) (rows_from bs h room n (used + length r.0) r.1)) (left, end) is in
    let g = fronts (f.0.0 ∷ []) (rows_from bs h room n (used + length f.0.0) f.0.1) (left, end) f.2 in
    let e : suc n - 1 ≡ n = omega arith in
    let same_end : g.0.1 ≡ end = sym (ap (λ (p : List Row × ℕ). p.1) g.2) in (
      f.0.0,
      f.0.1,
      g.0.0,
      ap (λ (p : List Row × ℕ). p.0) g.2,
      f.1,
      ap (λ m. rows_from bs h room m (used + length f.0.0) f.0.1) e ∙ g.1 ∙ ap (λ m. Ok (g.0.0, m)) same_end,
    )

-- What is left of a load that succeeds, after i rows of n, with the loader l.
pub record Underway (bs starts₀ : List ℕ) (entries₀ : List Entry) (n i : ℕ) (l : Stand) (starts : List ℕ) (entries : List Entry) : Type 0 where
  pub all : List Row
  pub left : List Row
  pub end : ℕ
  pub same : l.reader.bytes.now ≡ bs
  pub fits : l.used ≤ length entries₀
  pub last : n ≡ l.heading.carriers
  pub count : l.rows ≡ i
  pub whole : loaded bs (length starts₀) (length entries₀) ≡ Ok (meaning_of l.heading all)
  pub long : l.heading.carriers + 1 ≤ length starts₀
  pub next : rows_from bs l.heading (length entries₀) (l.heading.carriers - i) l.used l.reader.at ≡ Ok (left, end)
  pub closes : closed_at bs (l.used + entries_in left) end ≡ Ok tt
  pub starts_left : over starts (i + 1) (ends_of l.used left) ≡ over starts₀ 1 (ends_of 0 all)
  pub entries_left : over entries l.used (entries_of left) ≡ over entries₀ 0 (entries_of all)

module _ (bs starts₀ : List ℕ) (entries₀ : List Entry) (n i : ℕ) (l : Stand) (starts : List ℕ) (entries : List Entry)
    (g : Underway bs starts₀ entries₀ n i l starts entries)
    (ls : length starts ≡ length starts₀) (le : length entries ≡ length entries₀) where
  module _ (inside : i < n) where
    some : 0 < l.heading.carriers - i
    some = omega (arith, g.last)

    pub first : (row : Row) × (next : ℕ) × (rest : List Row) × (g.left ≡ row ∷ rest) × (row_in bs l.heading (length entries₀) l.used l.reader.at ≡ Ok (row, next))
        × (rows_from bs l.heading (length entries₀) (l.heading.carriers - i - 1) (l.used + length row) next ≡ Ok (rest, g.end))
    first = rows_first bs l.heading (length entries₀) (l.heading.carriers - i) l.used l.reader.at g.left g.end g.next some

    -- the next row is accepted
    pub accepted : next_row l (length starts) (length entries) ≡ Ok (first.0, first.1)
    accepted =
        let c = g.count in let e = g.last in let o = g.long in
        tests (ltb l.rows l.heading.carriers) (and_then (row_in l.reader.bytes.now l.heading (length entries) l.used l.reader.at) (λ r. room_for (fault_of TooShort) (l.rows + 2) (length starts) r)) (Err (fault_of NoRowLeft)) (lt-ltb l.rows l.heading.carriers (omega arith))
        ∙ follows (row_in l.reader.bytes.now l.heading (length entries) l.used l.reader.at) (λ r. room_for (fault_of TooShort) (l.rows + 2) (length starts) r) (first.0, first.1) (Ok (first.0, first.1))
        (ap (λ b. row_in b l.heading (length entries) l.used l.reader.at) g.same ∙ ap (λ m. row_in bs l.heading m l.used l.reader.at) le ∙ first.4)
        (room_there (fault_of TooShort) (l.rows + 2) (length starts) (first.0, first.1) (omega arith))

    underway_more : Underway bs starts₀ entries₀ n (i + 1) (after_row l (first.0, first.1)) (starts_after_row l starts (first.0, first.1)) (entries_after_row l entries (first.0, first.1))
    underway_more =
        let c = g.count in let e = g.last in let o = g.long in
        let is = first.3 in
        let used = l.used in
        let few = (row_fits bs l.heading (length entries₀) l.used l.reader.at (first.0, first.1) first.4).1 in
        let fit : used + length first.0 ≤ length entries₀ = omega (arith, few, g.fits) in
        let one : l.heading.carriers - (i + 1) ≡ l.heading.carriers - i - 1 = omega arith in
        record {
          all = g.all;
          left = first.2;
          end = g.end;
          same = g.same;
          fits = fit;
          last = g.last;
          count = ap (λ m. m + 1) c;
          whole = g.whole;
          long = g.long;
          next = ap (λ m. rows_from bs l.heading (length entries₀) m (l.used + length first.0) first.1) one ∙ first.5;
          closes = let e : l.used + length first.0 + entries_in first.2 ≡ l.used + entries_in g.left = omega (arith, ap entries_in is) in ap (λ m. closed_at bs m g.end) e ∙ g.closes;
          starts_left = ap (λ m. over (set starts (m + 1) (l.used + length first.0)) (i + 1 + 1) (ends_of (l.used + length first.0) first.2)) c
              ∙ over-set starts (i + 1) (l.used + length first.0) (ends_of (l.used + length first.0) first.2) (omega arith)
              ∙ ap (λ z. over starts (i + 1) (ends_of l.used z)) (sym is) ∙ g.starts_left;
          entries_left = over-over entries (map entry_of first.0) (entries_of first.2) used (length first.0) (sym (length-map first.0 entry_of)) (omega (arith, fit))
              ∙ ap (λ z. over entries l.used (entries_of z)) (sym is) ∙ g.entries_left;
        }

    -- the same, by what a call that reads a row ensures
    pub underway_next : (l' : Stand) (starts' : List ℕ) (entries' : List Entry)
        → l' ≡ updated (next_row l (length starts) (length entries)) l (after_row l)
        → starts' ≡ updated (next_row l (length starts) (length entries)) starts (starts_after_row l starts)
        → entries' ≡ updated (next_row l (length starts) (length entries)) entries (entries_after_row l entries)
        → Underway bs starts₀ entries₀ n (i + 1) l' starts' entries'
    underway_next l' starts' entries' x s e =
        let v = next_row l (length starts) (length entries) in
        let x' = updated_ok v (first.0, first.1) l (after_row l) accepted ∙ sym x in
        let s' = updated_ok v (first.0, first.1) starts (starts_after_row l starts) accepted ∙ sym s in
        let e' = updated_ok v (first.0, first.1) entries (entries_after_row l entries) accepted ∙ sym e in
        subst (λ z. Underway bs starts₀ entries₀ n (i + 1) z starts' entries') x'
        (subst (λ z. Underway bs starts₀ entries₀ n (i + 1) (after_row l (first.0, first.1)) z entries') s'
        (subst (λ z. Underway bs starts₀ entries₀ n (i + 1) (after_row l (first.0, first.1)) (starts_after_row l starts (first.0, first.1)) z) e' underway_more))

  module _ (done : n ≤ i) where
    none : rows_from bs l.heading (length entries₀) (l.heading.carriers - i) l.used l.reader.at ≡ Ok ([], l.reader.at)
    none = rows_none bs l.heading (length entries₀) (l.heading.carriers - i) l.used l.reader.at (omega (arith, g.last))

    both : ◌≡◌ {A = List Row × ℕ} ([], l.reader.at) (g.left, g.end)
    both = ok_same ([], l.reader.at) (g.left, g.end) (sym none ∙ g.next)

    pub closes_now : closing l ≡ Ok tt
    closes_now =
        let c = g.count in let e = g.last in
        let z : l.used ≡ l.used + entries_in g.left = omega (arith, ap (λ (p : List Row × ℕ). entries_in p.0) both) in
        cond-false (ltb l.rows l.heading.carriers) (Err (fault_of RowsMissing)) (closed_at l.reader.bytes.now l.used l.reader.at) (le-ltb l.rows l.heading.carriers (omega arith))
        ∙ ap (λ b. closed_at b l.used l.reader.at) g.same ∙ ap (λ m. closed_at bs m l.reader.at) z ∙ ap (λ (p : List Row × ℕ). closed_at bs (l.used + entries_in g.left) p.1) both ∙ g.closes

    pub starts_done : starts ≡ over starts₀ 1 (ends_of 0 g.all)
    starts_done = sym (over_none starts (i + 1)) ∙ ap (λ (p : List Row × ℕ). over starts (i + 1) (ends_of l.used p.0)) both ∙ g.starts_left

    pub entries_done : entries ≡ over entries₀ 0 (entries_of g.all)
    entries_done = sym (over_none entries l.used) ∙ ap (λ (p : List Row × ℕ). over entries l.used (entries_of p.0)) both ∙ g.entries_left

-- A load that succeeds, after its heading.
module _ (bs starts : List ℕ) (entries : List Entry) (h : Heading) (b : Bare) (whose : b.bytes.now ≡ bs) (told : Ok h ≡ heading_answer (loaded bs (length starts) (length entries))) where
  pub file : (m : Meaning) × (loaded bs (length starts) (length entries) ≡ Ok m) × (h ≡ heading_of m)
  file = heading_ok (loaded bs (length starts) (length entries)) h told

  pub parts : (at : ℕ) × (end : ℕ) × (heading_in bs (length starts) ≡ Ok (heading_of file.0, at)) × (rows_from bs (heading_of file.0) (length entries) file.0.carriers 0 at ≡ Ok (file.0.rows, end)) × (closed_at bs (entries_in file.0.rows) end ≡ Ok tt)
  parts = load_parts bs (length starts) (length entries) file.0 file.1

  pub heading_there : heading_in b.bytes.now (length starts) ≡ Ok (heading_of file.0, parts.0)
  heading_there = ap (λ z. heading_in z (length starts)) whose ∙ parts.2

  module _ (starts₀ : List ℕ) (put : starts₀ ≡ updated (heading_in b.bytes.now (length starts)) starts (λ _. set starts 0 0)) where
    pub start_put : starts₀ ≡ set starts 0 0
    start_put = put ∙ sym (updated_ok (heading_in b.bytes.now (length starts)) (heading_of file.0, parts.0) starts (λ _. set starts 0 0) heading_there)

    pub underway_first : (l : Stand) → Ok l ≡ headed_by b (heading_in b.bytes.now (length starts)) → Underway bs starts₀ entries h.carriers 0 l starts₀ entries
    underway_first l is =
        let k = headed_ok b (heading_in b.bytes.now (length starts)) l is in
        let same : k.0 ≡ (heading_of file.0, parts.0) = ok_same k.0 (heading_of file.0, parts.0) (sym k.1 ∙ heading_there) in
        let there : l ≡ record { reader = record { bytes = b.bytes; at = parts.0 }; heading = heading_of file.0; rows = 0; used = 0 } = k.2 ∙ ap (λ (x : Heading × ℕ). record { reader = record { bytes = b.bytes; at = x.1 }; heading = x.0; rows = 0; used = 0 }) same in
        let f = followed (heading_from bs 0) (λ h. room_for (fault_of TooShort) (h.0.carriers + 1) (length starts) h) (heading_of file.0, parts.0) parts.2 in
        let fits = roomy (fault_of TooShort) (f.0.0.carriers + 1) (length starts) f.0 (heading_of file.0, parts.0) f.2 in
        let fits' : file.0.carriers + 1 ≤ length starts = subst (λ (y : Heading × ℕ). y.0.carriers + 1 ≤ length starts) fits.1 fits.0 in
        let len : length starts₀ ≡ length starts = ap length start_put ∙ length-set starts 0 0 in
        let zero-less : file.0.carriers - 0 ≡ file.0.carriers = omega arith in
        let zero_more : 0 + entries_in file.0.rows ≡ entries_in file.0.rows = omega arith in
        subst (λ (x : Stand). Underway bs starts₀ entries h.carriers 0 x starts₀ entries) (sym there)
        record {
          all = file.0.rows;
          left = file.0.rows;
          end = parts.1;
          same = whose;
          fits = omega arith;
          last = ap (λ (x : Heading). x.carriers) file.2;
          count = refl;
          whole = ap (λ n. loaded bs n (length entries)) len ∙ file.1;
          long = omega (arith, fits', len);
          next = ap (λ n. rows_from bs (heading_of file.0) (length entries) n 0 parts.0) zero-less ∙ parts.3;
          closes = ap (λ n. closed_at bs n parts.1) zero_more ∙ parts.4;
          starts_left = refl;
          entries_left = refl;
        }
