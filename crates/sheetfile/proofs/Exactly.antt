-- What a loader makes of a sheet file.
use Rattle.std.proofs.Common.{◌≡◌, ℕ, ◌+◌, ◌-◌, ◌<◌, ◌≤◌, ltb, List, length, set, Ok, Err, Result, IfOk, IsOkAnd, ⊎_elim, sym, refl, ap, ◌∙◌, subst, arith}
use Rattle.std.proofs.lemmas.Bool.{cases_lt, cond-false, cond-true, le-ltb, lt-ltb}
use Rattle.refusals.specs.Faults.{fault_of}
use Rattle.refusals.specs.declared.Fault.{Fault}
use Rattle.refusals.specs.declared.Refusal.TheVariants.{RowsMissing}
use Rattle.sources.specs.Meaning.{Meaning, row_of}
use Rattle.sources.specs.Tables.{heading_of}
use Rattle.sources.specs.declared.records.Entry.{Entry}
use Rattle.sources.specs.declared.records.Heading.{Heading}
use Rattle.sheetfile.specs.Begun.{Begun}
use Rattle.sheetfile.specs.Layout.{Row, SheetFile}
use Rattle.sheetfile.specs.Reading.{closed_at}
use Rattle.sheetfile.specs.States.{ClosesExactly, ReadsInOrder, RowRead, Stand, closed_by, closing, entries_after_row, next_row, stand, starts_after_row}
use Rattle.sheetfile.specs.Steps.{without_value}
use Rattle.sheetfile.specs.Tables.{HoldsRows, sheet_in}
use Rattle.sheetfile.specs.declared.loader.Closed.{Closed}
use Rattle.sheetfile.specs.declared.loader.Headed.{Headed}
use Rattle.sheetfile.specs.declared.loader.Refused.{Refused}
use Rattle.sheetfile.proofs.Begun.{told_end, told_file, told_heading, told_next, told_used}
use Rattle.sheetfile.proofs.Held.{holds_all, holds_more}
use Rattle.sheetfile.proofs.Steps.{err_not_ok, ok_same}
use Rattle.sheetfile.proofs.Tables.{row_accepted, row_accepts, updated_ok}

valued : {A : Type 0} (r : Result A Fault) → without_value r ≡ Ok tt → (x : A) × (r ≡ Ok x)
valued (Err e) is = err_not_ok e tt is
valued (Ok x) is = (x, refl)

module _ (l : Stand) (begun : ∥ Begun l.reader.bytes.now l.reader.at l.heading l.rows l.used ∥₁) (m : Meaning) (file : SheetFile l.reader.bytes.now m)
    (starts : List ℕ) (entries : List Entry) (r : Result (Unit {0}) Fault) (starts' : List ℕ) (entries' : List Entry)
    (told : r ≡ without_value (next_row l (length starts) (length entries)))
    (l' : Stand) (read : RowRead l l' starts starts' entries entries') where
  every : l.rows < m.carriers → l.rows + 2 ≤ length starts → length (row_of m l.rows) ≤ length entries - l.used → r ≡ Ok tt
  every inside enough few =
      let k = told_next l.reader.bytes.now l.heading l.reader.at l.rows l.used begun m file inside in
      let h = told_heading l.reader.bytes.now l.heading l.reader.at l.rows l.used begun m file in
      told ∙ ap without_value (row_accepts l (length starts) (length entries) (row_of m l.rows, k.0) k.1 (omega (arith, inside, ap (λ (x : Heading). x.carriers) h)) enough few)

  row : r ≡ Ok tt → (starts' ≡ set starts (l.rows + 1) (l.used + length (row_of m l.rows))) × (entries' ≡ entries_after_row l entries (row_of m l.rows, 0))
  row ok =
      let v = next_row l (length starts) (length entries) in
      let x = valued v (sym told ∙ ok) in
      let a = row_accepted l (length starts) (length entries) x.0 x.1 in
      let h = told_heading l.reader.bytes.now l.heading l.reader.at l.rows l.used begun m file in
      let k = told_next l.reader.bytes.now l.heading l.reader.at l.rows l.used begun m file (omega (arith, a.3, ap (λ (x : Heading). x.carriers) h)) in
      let same : x.0.0 ≡ row_of m l.rows = ap (λ (y : Row × ℕ). y.0) (ok_same x.0 (row_of m l.rows, k.0) (sym a.0 ∙ k.1)) in (
        read.starts_are ∙ sym (updated_ok v x.0 starts (starts_after_row l starts) x.1) ∙ ap (λ row. set starts (l.rows + 1) (l.used + length row)) same,
        read.entries_are ∙ sym (updated_ok v x.0 entries (entries_after_row l entries) x.1) ∙ ap (λ row. entries_after_row l entries (row, 0)) same,
      )

  held : r ≡ Ok tt → HoldsRows m l.rows starts entries → HoldsRows m (l.rows + 1) starts' entries'
  held ok holds =
      let v = next_row l (length starts) (length entries) in
      let x = valued v (sym told ∙ ok) in
      let a = row_accepted l (length starts) (length entries) x.0 x.1 in
      let h = told_heading l.reader.bytes.now l.heading l.reader.at l.rows l.used begun m file in
      let used = told_used l.reader.bytes.now l.heading l.reader.at l.rows l.used begun m file in
      let more = holds_more m l.rows starts entries holds l.used (omega (arith, a.3, ap (λ (x : Heading). x.carriers) h, file.bounded.sound.counted)) used a.2 in
      subst (λ z. HoldsRows m (l.rows + 1) z entries') (sym (row ok).0) (subst (λ z. HoldsRows m (l.rows + 1) (set starts (l.rows + 1) (l.used + length (row_of m l.rows))) z) (sym (row ok).1) more)

  pub reads_in_order : ReadsInOrder m l starts entries r starts' entries'
  reads_in_order = record { every = every; row = row; held = held }

module _ (l : Headed) where
  closed_file : (q : Result (Unit {0}) Fault) → closing (stand l) ≡ q → IfOk (closed_by l q) (λ c. (m : Meaning) × SheetFile l.reader.bytes.now m × (l.rows ≡ m.carriers) × (c.heading ≡ heading_of m))
  closed_file (Err e) is = tt
  closed_file (Ok tt) is =
      ⊎_elim
      (λ fewer. err_not_ok (fault_of RowsMissing) tt (sym (cond-true (ltb l.rows l.heading.carriers) (Err (fault_of RowsMissing)) (closed_at l.reader.bytes.now l.used l.reader.at) (lt-ltb l.rows l.heading.carriers fewer)) ∙ is))
      (λ last. told_file l.reader.bytes.now l.heading l.reader.at l.rows l.used l.begun last
      (sym (cond-false (ltb l.rows l.heading.carriers) (Err (fault_of RowsMissing)) (closed_at l.reader.bytes.now l.used l.reader.at) (le-ltb l.rows l.heading.carriers last)) ∙ is))
      (cases_lt l.rows l.heading.carriers)

  closed_filled : (m : Meaning) (starts : List ℕ) (entries : List Entry) → SheetFile l.reader.bytes.now m → HoldsRows m l.rows starts entries → (q : Result (Unit {0}) Fault) → closing (stand l) ≡ q →
      IfOk (closed_by l q) (λ c. sheet_in c.heading starts entries ≡ Ok m)
  closed_filled m starts entries file holds (Err e) is = tt
  closed_filled m starts entries file holds (Ok tt) is =
      let f = closed_file (Ok tt) is in
      let b = l.begun in
      let h = told_heading l.reader.bytes.now l.heading l.reader.at l.rows l.used b m file in
      let all : l.rows ≡ m.carriers = f.2 ∙ ap (λ (x : Heading). x.carriers) (sym f.3 ∙ h) in
      ap (λ (x : Heading). sheet_in x starts entries) h ∙ holds_all m l.rows starts entries holds file.bounded all

  pub closes_exactly : (r : Result Closed (Refused Headed)) → r ≡ closed_by l (closing (stand l)) → ClosesExactly l.reader.bytes.now l.rows r
  closes_exactly r told = record {
    every = λ m file last.
        let h = told_heading l.reader.bytes.now l.heading l.reader.at l.rows l.used l.begun m file in
        let done : l.heading.carriers ≤ l.rows = omega (arith, last, ap (λ (x : Heading). x.carriers) h) in
        let closes = cond-false (ltb l.rows l.heading.carriers) (Err (fault_of RowsMissing)) (closed_at l.reader.bytes.now l.used l.reader.at) (le-ltb l.rows l.heading.carriers done)
        ∙ told_end l.reader.bytes.now l.heading l.reader.at l.rows l.used l.begun m file last in
        subst (λ q. IsOkAnd q (λ c. c.heading ≡ heading_of m)) (sym (told ∙ ap (closed_by l) closes)) h;
    only = subst (λ q. IfOk q (λ c. (m : Meaning) × SheetFile l.reader.bytes.now m × (l.rows ≡ m.carriers) × (c.heading ≡ heading_of m))) (sym told) (closed_file (closing (stand l)) refl);
    filled = λ m starts entries file holds. subst (λ q. IfOk q (λ c. sheet_in c.heading starts entries ≡ Ok m)) (sym told) (closed_filled m starts entries file holds (closing (stand l)) refl);
  }
