-- Lines that are added one behind the other.
use Rattle.std.proofs.Common.{◌≡◌, ℕ, suc, ◌+◌, ◌*◌, ◌<◌, ◌≤◌, true, ◌||◌, List, [], ◌∷◌, ◌++◌, length, get_or, take, sym, ap, ◌∙◌, arith}
use Rattle.std.proofs.lemmas.List.{append_assoc, append-nil, length-take-le, take_more}
use Rattle.std.proofs.ByRecursion.{All-from_get_or, All-take}
use Rattle.std.specs.List.{AllByRecursion}
use Rattle.sources.specs.declared.records.Heading.{Heading}
use Rattle.sources.specs.Meaning.{Meaning, Sound}
use Rattle.sources.specs.Sheets.{blank, within_limits}
use Rattle.sources.proofs.Reading.{row_length}
use Rattle.sheetfile.specs.Layout.{Row, entries_in}
use Rattle.sheetfile.proofs.Sheets.{entries_push}
use Rattle.inspection.specs.Listing.{row_line, row_lines}

-- pieces of a text, one behind the other
pub assembled : (t₀ t₁ t₂ t₃ a b c : List ℕ) → t₀ ≡ [] → t₁ ≡ t₀ ++ a → t₂ ≡ t₁ ++ b → t₃ ≡ t₂ ++ c → t₃ ≡ a ++ (b ++ c)
assembled t₀ t₁ t₂ t₃ a b c e₀ e₁ e₂ e₃ = e₃ ∙ ap (λ t. t ++ c) (e₂ ∙ ap (λ t. t ++ b) (e₁ ∙ ap (λ t. t ++ a) e₀)) ∙ append_assoc a b c

-- a sheet has few carriers and jobs
pub few_listed : (h : Heading) → (within_limits h || blank h) ≡ true → (h.carriers ≤ 128) × (h.jobs ≤ 256)
few_listed h e = grind arith

lines_push : (i : ℕ) (rows : List Row) (row : Row) → row_lines i (rows ++ row ∷ []) ≡ row_lines i rows ++ row_line (i + length rows) row
lines_push i [] row =
    let e : i ≡ i + 0 = omega arith in
    append-nil (row_line i row) ∙ ap (λ n. row_line n row) e
lines_push i (r ∷ rows) row =
    let e : i + 1 + length rows ≡ i + suc (length rows) = omega arith in
    ap (λ l. row_line i r ++ l) (lines_push (i + 1) rows row ∙ ap (λ n. row_lines (i + 1) rows ++ row_line n row) e)
    ∙ sym (append_assoc (row_line i r) (row_lines (i + 1) rows) (row_line (i + suc (length rows)) row))

module _ (rows : List Row) (i : ℕ) (inside : i < length rows) where
  -- one carrier more
  pub lines_more : row_lines 0 (take i rows) ++ row_line i (get_or rows i []) ≡ row_lines 0 (take (i + 1) rows)
  lines_more =
      let n : 0 + length (take i rows) ≡ i = omega (arith, length-take-le i rows (omega arith)) in
      ap (λ k. row_lines 0 (take i rows) ++ row_line k (get_or rows i [])) (sym n)
      ∙ sym (lines_push 0 (take i rows) (get_or rows i [])) ∙ ap (row_lines 0) (sym (take_more rows i [] inside))

  pub count_more : entries_in (take i rows) + length (get_or rows i []) ≡ entries_in (take (i + 1) rows)
  count_more = sym (ap entries_in (take_more rows i [] inside) ∙ entries_push (take i rows) (get_or rows i []))

-- how many entries there may be
few : (rows : List Row) → AllByRecursion (λ row. length row ≤ 256) rows → entries_in rows ≤ 256 * length rows
few [] all = omega arith
few (row ∷ rows) all = let a = all.0 in let i = few rows all.1 in omega arith

pub entries_few : (m : Meaning) → Sound m → m.jobs ≤ 256 → m.carriers ≤ 128 → (i : ℕ) → i ≤ m.carriers → entries_in (take i m.rows) ≤ 32768
entries_few m s jobs carriers i inside =
    let rows : AllByRecursion (λ row. length row ≤ 256) m.rows = All-from_get_or (λ row. length row ≤ 256) m.rows [] (λ k l. omega (arith, row_length m s k)) in
    let c = s.counted in
    omega (arith, few (take i m.rows) (All-take (λ row. length row ≤ 256) i m.rows rows), length-take-le i m.rows (omega arith))
