-- The bounds of a sheet, number by number.
use Rattle.std.proofs.Common.{◌≡◌, ℕ, ◌+◌, ◌^◌, ◌<◌, ◌≤◌, true, ◌&&◌, leb, List, [], ◌∷◌, length, arith}
use Rattle.std.proofs.lemmas.Bool.{and_from, and_parts, le-leb, leb-true}
use Rattle.std.specs.List.{AllByRecursion}
use Rattle.sources.specs.Meaning.{Meaning, Rising, Sound}
use Rattle.sources.specs.Sheets.{within_limits}
use Rattle.sources.specs.Tables.{Fillable, heading_of}
use Rattle.sources.specs.declared.records.Heading.{Heading}
use Rattle.sheetfile.specs.Layout.{Row}
use Rattle.sheetfile.proofs.Steps.{between, from-between}

pub record HeadingIn (h : Heading) : Type 0 where
  pub carriers_low : 1 ≤ h.carriers
  pub carriers_high : h.carriers ≤ 128
  pub jobs_low : 1 ≤ h.jobs
  pub jobs_high : h.jobs ≤ 256
  pub ceiling_high : h.ceiling ≤ 2 ^ 36

pub record EntryIn (h : Heading) (low : ℕ) (e : ℕ × ℕ) : Type 0 where
  pub rises : low ≤ e.0
  pub known : e.0 < h.jobs
  pub some : 1 ≤ e.1
  pub within : e.1 ≤ h.ceiling

-- jobs rise strictly, the first at least low, and each entry is within the heading's bounds
abbrev pub RowIn : Heading → ℕ → Row → Type 0
RowIn h low [] = Unit {0}
RowIn h low (e ∷ es) = EntryIn h low e × RowIn h (e.0 + 1) es

pub record Bounded (m : Meaning) : Type 0 where
  pub headed : HeadingIn (heading_of m)
  pub counted : length m.rows ≡ m.carriers
  pub good : AllByRecursion (RowIn (heading_of m) 0) m.rows

-- the limits of a heading, as a test and as facts
pub limits : (h : Heading) → within_limits h ≡ true → HeadingIn h
limits h is =
    let p = and_parts (leb 1 h.carriers && leb h.carriers 128) ((leb 1 h.jobs && leb h.jobs 256) && leb h.ceiling (2 ^ 36)) is in
    let q = and_parts (leb 1 h.jobs && leb h.jobs 256) (leb h.ceiling (2 ^ 36)) p.1 in
    let c = between 1 h.carriers 128 p.0 in
    let j = between 1 h.jobs 256 q.0 in
    record { carriers_low = c.0; carriers_high = c.1; jobs_low = j.0; jobs_high = j.1; ceiling_high = leb-true h.ceiling (2 ^ 36) q.1 }

pub from_limits : (h : Heading) → HeadingIn h → within_limits h ≡ true
from_limits h g =
    and_from (leb 1 h.carriers && leb h.carriers 128) ((leb 1 h.jobs && leb h.jobs 256) && leb h.ceiling (2 ^ 36)) (from-between 1 h.carriers 128 g.carriers_low g.carriers_high)
    (and_from (leb 1 h.jobs && leb h.jobs 256) (leb h.ceiling (2 ^ 36)) (from-between 1 h.jobs 256 g.jobs_low g.jobs_high) (le-leb h.ceiling (2 ^ 36) g.ceiling_high))

-- a row by its properties, and entry by entry
row_in : (h : Heading) (low : ℕ) (row : Row) → Rising low row → AllByRecursion (λ e. e.0 < h.jobs) row → AllByRecursion (λ e. 1 ≤ e.1) row → AllByRecursion (λ e. e.1 ≤ h.ceiling) row → RowIn h low row
row_in h low [] r k s w = tt
row_in h low (e ∷ es) r k s w = (record { rises = r.0; known = k.0; some = s.0; within = w.0 }, row_in h (e.0 + 1) es r.1 k.1 s.1 w.1)

pub rows_in : (h : Heading) (rows : List Row) → AllByRecursion (Rising 0) rows → AllByRecursion (AllByRecursion (λ e. e.0 < h.jobs)) rows → AllByRecursion (AllByRecursion (λ e. 1 ≤ e.1)) rows → AllByRecursion (AllByRecursion (λ e. e.1 ≤ h.ceiling)) rows → AllByRecursion (RowIn h 0) rows
rows_in h [] r k s w = tt
rows_in h (row ∷ rows) r k s w = (row_in h 0 row r.0 k.0 s.0 w.0, rows_in h rows r.1 k.1 s.1 w.1)

pub bounded : (m : Meaning) → Fillable m → Bounded m
bounded m f = record {
  headed = limits (heading_of m) f.limited;
  counted = f.sound.counted;
  good = rows_in (heading_of m) m.rows f.sound.rising f.sound.known f.nonzero f.sound.within;
}

rises_in : (h : Heading) (low : ℕ) (row : Row) → RowIn h low row → Rising low row
rises_in h low [] r = tt
rises_in h low (e ∷ es) r = (r.0.rises, rises_in h (e.0 + 1) es r.1)

each_in : (P : ℕ × ℕ → Type 0) (h : Heading) → ((low : ℕ) (e : ℕ × ℕ) → EntryIn h low e → P e) → (low : ℕ) (row : Row) → RowIn h low row → AllByRecursion P row
each_in P h p low [] r = tt
each_in P h p low (e ∷ es) r = (p low e r.0, each_in P h p (e.0 + 1) es r.1)

every_row : (P : Row → Type 0) (h : Heading) → ((row : Row) → RowIn h 0 row → P row) → (rows : List Row) → AllByRecursion (RowIn h 0) rows → AllByRecursion P rows
every_row P h p [] r = tt
every_row P h p (row ∷ rows) r = (p row r.0, every_row P h p rows r.1)

-- rows within a heading's bounds are sound, as many as they are, and have no zero entries
module _ (h : Heading) (g : HeadingIn h) (rows : List Row) (good : AllByRecursion (RowIn h 0) rows) where
  pub sound_in : (n : ℕ) → length rows ≡ n → Sound (record { carriers = n; jobs = h.jobs; ceiling = h.ceiling; rows = rows })
  sound_in n counted =
      let low = g.ceiling_high in
      record {
        counted = counted;
        rising = every_row (Rising 0) h (rises_in h 0) rows good;
        known = every_row (AllByRecursion (λ e. e.0 < h.jobs)) h (each_in (λ e. e.0 < h.jobs) h (λ low e i. i.known) 0) rows good;
        within = every_row (AllByRecursion (λ e. e.1 ≤ h.ceiling)) h (each_in (λ e. e.1 ≤ h.ceiling) h (λ low e i. i.within) 0) rows good;
        small = omega arith;
      }

  pub some_in : AllByRecursion (AllByRecursion (λ e. 1 ≤ e.1)) rows
  some_in = every_row (AllByRecursion (λ e. 1 ≤ e.1)) h (each_in (λ e. 1 ≤ e.1) h (λ low e i. i.some) 0) rows good

pub fillable : (m : Meaning) → Bounded m → Fillable m
fillable m b = record {
  sound = sound_in (heading_of m) b.headed m.rows b.good m.carriers b.counted;
  limited = from_limits (heading_of m) b.headed;
  nonzero = some_in (heading_of m) b.headed m.rows b.good;
}
