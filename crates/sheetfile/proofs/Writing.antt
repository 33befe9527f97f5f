-- Bytes put one after another, and rows read through a source.
use Rattle.std.proofs.Common.{◌≡◌, ℕ, ◌+◌, ◌*◌, ◌^◌, ◌<◌, ◌≤◌, true, ltb, leb, List, [], ◌∷◌, ◌++◌, map, length, get_or, take, Ok, Err, sym, refl, ap, ◌∙◌, ⊎_elim, arith}
use Rattle.std.proofs.ByRecursion.{All-from_get_or, All-take}
use Rattle.std.proofs.lemmas.List.Sums.{count_by-le-length, length-filter}
use Rattle.std.proofs.lemmas.List.{flat_map_more, length-append, length-take-le, map_more}
use Rattle.std.proofs.lemmas.Bool.{and_from, cases_lt, cond-false, cond-true, le-leb, le-ltb, lt-ltb}
use Rattle.std.specs.List.{flat_map, AllByRecursion}
use Rattle.refusals.specs.declared.Refusal.{Refusal}
use Rattle.refusals.specs.declared.Refusal.TheVariants.{TooShort}
use Rattle.numbers.proofs.Groups.{encoded_few}
use Rattle.numbers.specs.Groups.{encoded}
use Rattle.numbers.specs.Writing.{fits_at, write_at}
use Rattle.sources.proofs.Reading.{row_known, row_length, row_within}
use Rattle.sources.specs.Meaning.{Meaning, Sound, row_of}
use Rattle.sources.specs.Sheets.{within_limits}
use Rattle.sources.specs.Tables.{heading_of}
use Rattle.sources.specs.declared.records.Heading.{Heading}
use Rattle.sheetfile.specs.Layout.{Row, entries_in, entry_bytes, heading_bytes, row_bytes}
use Rattle.sheetfile.specs.Writing.{nonzero, nonzero_bytes, written}
use Rattle.sheetfile.proofs.Bounds.{HeadingIn, limits}
use Rattle.sheetfile.proofs.Sheets.{entries_push}
use Rattle.sheetfile.proofs.Steps.{err_not_ok}

-- numbers of at most six groups
pub encoded_short : (n : ℕ) → n < 2 ^ 42 → length (encoded n) ≤ 6
encoded_short n small = encoded_few 5 n small

-- six places are room for such a number
pub never_refused : (n : ℕ) (e : Refusal) → n < 2 ^ 42 → Err e ≡ write_at 6 0 n → ⊥
never_refused n e small is =
    let short = encoded_short n small in
    let fits : fits_at 6 0 n ≡ true = and_from (leb (length (encoded n)) 6) (leb (0 + length (encoded n)) 6) (le-leb (length (encoded n)) 6 short) (le-leb (0 + length (encoded n)) 6 (omega arith)) in
    err_not_ok e (0 + length (encoded n)) (is ∙ cond-true (fits_at 6 0 n) (Ok (0 + length (encoded n))) (Err TooShort) fits)

-- the bytes of an entry
pub part_some : (e : ℕ × ℕ) → 0 < e.1 → nonzero_bytes e ≡ entry_bytes e
part_some e some = cond-true (ltb 0 e.1) (entry_bytes e) [] (lt-ltb 0 e.1 some)

pub part_none : (e : ℕ × ℕ) → e.1 ≤ 0 → nonzero_bytes e ≡ []
part_none e none = cond-false (ltb 0 e.1) (entry_bytes e) [] (le-ltb 0 e.1 none)

abbrev pub Small : ℕ × ℕ → Type 0
Small e = (e.0 < 2 ^ 42) × (e.1 < 2 ^ 42)

part_short : (e : ℕ × ℕ) → Small e → length (nonzero_bytes e) ≤ 12
part_short e s =
    ⊎_elim (λ some. let l = ap length (part_some e some) in let n = length-append (encoded e.0) (encoded e.1) in let p = encoded_short e.0 s.0 in let q = encoded_short e.1 s.1 in omega arith)
    (λ none. let l = ap length (part_none e none) in omega arith) (cases_lt 0 e.1)

pub parts_all : (row : Row) → flat_map nonzero_bytes row ≡ flat_map entry_bytes (nonzero row)
parts_all [] = refl
parts_all (e ∷ es) =
    ⊎_elim
    (λ some. let t = lt-ltb 0 e.1 some in ap (λ l. l ++ flat_map nonzero_bytes es) (part_some e some) ∙ ap (λ l. entry_bytes e ++ l) (parts_all es) ∙ ap (flat_map entry_bytes) (sym (cond-true (ltb 0 e.1) (e ∷ nonzero es) (nonzero es) t)))
    (λ none. let t = le-ltb 0 e.1 none in ap (λ l. l ++ flat_map nonzero_bytes es) (part_none e none) ∙ parts_all es ∙ ap (flat_map entry_bytes) (sym (cond-false (ltb 0 e.1) (e ∷ nonzero es) (nonzero es) t)))
    (cases_lt 0 e.1)

pub parts_short : (row : Row) → AllByRecursion Small row → length (flat_map nonzero_bytes row) ≤ 12 * length row
parts_short [] s = omega arith
parts_short (e ∷ es) s = let n = length-append (nonzero_bytes e) (flat_map nonzero_bytes es) in let p = part_short e s.0 in let i = parts_short es s.1 in omega arith

pub kept_short : (row : Row) → length (nonzero row) ≤ length row
kept_short row = omega (arith, length-filter (λ e. ltb 0 e.1) row, count_by-le-length (λ e. ltb 0 e.1) row)

pub heading_short : (h : Heading) → HeadingIn h → length (heading_bytes h) ≤ 18
heading_short h g =
    let a = encoded_short h.carriers (omega (arith, g.carriers_high)) in let b = encoded_short h.jobs (omega (arith, g.jobs_high)) in let c = encoded_short h.ceiling (omega (arith, g.ceiling_high)) in
    omega (arith, length-append (encoded h.carriers) (encoded h.jobs ++ encoded h.ceiling), length-append (encoded h.jobs) (encoded h.ceiling))

-- rows of at most 256 entries, with small numbers
abbrev pub Light : Row → Type 0
Light row = (length row ≤ 256) × AllByRecursion Small row

row_small : (jobs ceiling : ℕ) → jobs ≤ 256 → ceiling ≤ 2 ^ 36 → (row : Row) → AllByRecursion (λ e. e.0 < jobs) row → AllByRecursion (λ e. e.1 ≤ ceiling) row → AllByRecursion Small row
row_small jobs ceiling j c [] k w = tt
row_small jobs ceiling j c (e ∷ es) k w = let a = k.0 in let b = w.0 in ((omega arith, omega arith), row_small jobs ceiling j c es k.1 w.1)

pub row_light : (m : Meaning) → Sound m → m.jobs ≤ 256 → m.ceiling ≤ 2 ^ 36 → (i : ℕ) → Light (row_of m i)
row_light m s j c i = (omega (arith, row_length m s i), row_small m.jobs m.ceiling j c (row_of m i) (row_known m s i) (row_within m s i))

pub rows_light : (m : Meaning) → Sound m → m.jobs ≤ 256 → m.ceiling ≤ 2 ^ 36 → AllByRecursion Light m.rows
rows_light m s j c = All-from_get_or Light m.rows [] (λ i l. row_light m s j c i)

bytes_short : (row : Row) → Light row → length (row_bytes (nonzero row)) ≤ 6 + 12 * length row
bytes_short row light =
    let few = light.0 in let k = kept_short row in
    let n = length-append (encoded (length (nonzero row))) (flat_map entry_bytes (nonzero row)) in
    let p = encoded_short (length (nonzero row)) (omega arith) in let i = parts_short row light.1 in let e = ap length (parts_all row) in omega arith

pub file_short : (rows : List Row) → AllByRecursion Light rows → length (flat_map row_bytes (map nonzero rows)) ≤ 3078 * length rows
file_short [] all = omega arith
file_short (row ∷ rows) all =
    let n = length-append (row_bytes (nonzero row)) (flat_map row_bytes (map nonzero rows)) in let a = all.0.0 in let b = bytes_short row all.0 in let i = file_short rows all.1 in omega arith

pub entries_few : (rows : List Row) → AllByRecursion Light rows → entries_in (map nonzero rows) ≤ 256 * length rows
entries_few [] all = omega arith
entries_few (row ∷ rows) all = let a = all.0.0 in let b = kept_short row in let i = entries_few rows all.1 in omega arith

-- one more row
module _ (rows : List Row) (i : ℕ) (inside : i < length rows) where
  next_row_lem : map nonzero (take (i + 1) rows) ≡ map nonzero (take i rows) ++ nonzero (get_or rows i []) ∷ []
  next_row_lem = map_more nonzero rows i [] inside

  pub rows_more : flat_map row_bytes (map nonzero (take i rows)) ++ row_bytes (nonzero (get_or rows i [])) ≡ flat_map row_bytes (map nonzero (take (i + 1) rows))
  rows_more = flat_map_more row_bytes [] (map nonzero (take i rows)) (nonzero (get_or rows i [])) ∙ ap (flat_map row_bytes) (sym next_row_lem)

  pub entries_more : entries_in (map nonzero (take i rows)) + length (nonzero (get_or rows i [])) ≡ entries_in (map nonzero (take (i + 1) rows))
  entries_more = sym (ap entries_in next_row_lem ∙ entries_push (map nonzero (take i rows)) (nonzero (get_or rows i [])))

-- a source within the limits of a sheet
module _ (m : Meaning) (s : Sound m) (is : within_limits (heading_of m) ≡ true) where
  within : HeadingIn (heading_of m)
  within = limits (heading_of m) is

  light : AllByRecursion Light m.rows
  light = rows_light m s (within.jobs_high) (within.ceiling_high)

  pub total_few : (i : ℕ) → i ≤ m.carriers → entries_in (map nonzero (take i m.rows)) ≤ 32768
  total_few i inside = omega (arith, entries_few (take i m.rows) (All-take Light i m.rows light), length-take-le i m.rows (omega (arith, s.counted)), within.carriers_high)

  pub written_short : length (written m) < 2 ^ 42
  written_short =
      let file = flat_map row_bytes (map nonzero m.rows) in
      let total = entries_in (map nonzero m.rows) in
      omega (
        arith,
        length-append (heading_bytes (heading_of m)) (flat_map row_bytes (map nonzero m.rows) ++ encoded (entries_in (map nonzero m.rows))),
        length-append (flat_map row_bytes (map nonzero m.rows)) (encoded (entries_in (map nonzero m.rows))),
        heading_short (heading_of m) within,
        file_short m.rows light,
        encoded_short (entries_in (map nonzero m.rows)) (omega (arith, entries_few m.rows light, s.counted, within.carriers_high)),
        s.counted,
        within.carriers_high,
      )
