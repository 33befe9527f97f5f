use Rattle.std.proofs.Common.{◌≡◌, ◌+◌, ◌-◌, [], ◌∷◌, ◌++◌, Ok, Err, sym, refl, ap, ◌∙◌, arith}
use Rattle.std.proofs.lemmas.Result.{err_from_is_err_and}
use Rattle.sheetfile.specs.Reading.{closed_at, row_in, rows_from}
use Rattle.sheetfile.specs.Steps.{prefixed}
use Rattle.sheetfile.specs.Tables.{heading_answer}
use Rattle.sheetfile.proofs.Readers.{heading_from_start, reads_err, reads_ok}
use Rattle.sheetfile.proofs.Rows.{prefixed_none}
use Rattle.sheetfile.proofs.Sheets.{entries_push, load_closed, load_fault, load_headed, row_fits, row_more, rows_fault}
use Rattle.sheetfile.proofs.Tables.{row_err, row_ok}
use Rattle.sheetfile.proofs.files.survey.Goals as goal

pub returns-in_err-heading : goal.returns-in_err-heading
returns-in_err-heading c =
    let p = err_from_is_err_and c.from_residual.result c.from_residual.ensures.1 in
    let e = heading_from_start c.new-reader.result c.args.bytes.now c.args.starts (ap (λ b. b.now) c.new-reader.ensures.bytes) c.new-reader.ensures.place ∙ (reads_err c.in_err-heading.ensures).0 in
    rw (p.1, p.2) (sym (ap heading_answer (load_fault c.args.bytes.now c.args.starts c.args.room c.in_err-heading.field-0.0 e)))

pub loop-i-init : goal.loop-i-init
loop-i-init c =
    let e : c.in_ok-heading.heading.carriers ≡ c.in_ok-heading.heading.carriers - 0 = omega arith in (
      [],
      refl,
      omega arith,
      ap (λ b. b.now) ((reads_ok c.in_ok-heading.ensures).1 ∙ c.new-reader.ensures.bytes),
      ap (λ n. rows_from c.args.bytes.now c.in_ok-heading.heading c.args.room n 0 c.heading.new.self.at) e
          ∙ sym (prefixed_none (rows_from c.args.bytes.now c.in_ok-heading.heading c.args.room (c.in_ok-heading.heading.carriers - 0) 0 c.heading.new.self.at)),
    )

pub loop-i-preserved : goal.loop-i-preserved
loop-i-preserved c =
    let l = c.loop-i in
    let r = reads_ok c.in_ok-count.ensures.reads in
    let s = row_ok (row_in c.loop-i.reader.bytes.now c.in_ok-heading.heading c.args.room c.loop-i.used c.loop-i.reader.at) c.in_ok-count.count c.row_in.new.self.at r.0 in
    let is : row_in c.args.bytes.now c.in_ok-heading.heading c.args.room c.loop-i.used c.loop-i.reader.at ≡ Ok (s.0, c.row_in.new.self.at) =
    ap (λ b. row_in b c.in_ok-heading.heading c.args.room c.loop-i.used c.loop-i.reader.at) (sym l.invariant.3) ∙ s.1 in
    let f = row_fits c.args.bytes.now c.in_ok-heading.heading c.args.room c.loop-i.used c.loop-i.reader.at (s.0, c.row_in.new.self.at) is in (
      l.invariant.0 ++ s.0 ∷ [],
      omega (arith, entries_push l.invariant.0 s.0, s.2, l.invariant.1),
      omega (arith, f.1, s.2, l.invariant.2),
      ap (λ b. b.now) r.1 ∙ l.invariant.3,
      row_more c.args.bytes.now c.in_ok-heading.heading c.args.room c.in_ok-heading.heading.carriers c.loop-i._i l.used l.reader.at s.0 c.row_in.new.self.at l.invariant.0 _ (omega arith) is l.invariant.4
          ∙ ap (λ n. prefixed (c.loop-i.invariant.0 ++ s.0 ∷ []) (rows_from c.args.bytes.now c.in_ok-heading.heading c.args.room (c.in_ok-heading.heading.carriers - (c.loop-i._i + 1)) (c.loop-i.used + n) c.row_in.new.self.at)) s.2,
    )

pub returns-in_err-count : goal.returns-in_err-count
returns-in_err-count c =
    let p = err_from_is_err_and c.from_residual-in_err-count.result c.from_residual-in_err-count.ensures.1 in
    let l = c.loop-i in
    let h = c.in_ok-heading.heading in
    let e = row_err (row_in c.loop-i.reader.bytes.now c.in_ok-heading.heading c.args.room l.used l.reader.at) c.in_err-count.field-0.0 (reads_err c.in_err-count.ensures.reads).0 in
    let f = rows_fault c.args.bytes.now h c.args.room (c.in_ok-heading.heading.carriers - c.loop-i._i) l.used l.reader.at c.in_err-count.field-0.0 (omega arith) (ap (λ b. row_in b c.in_ok-heading.heading c.args.room c.loop-i.used c.loop-i.reader.at) (sym l.invariant.3) ∙ e) in
    let first = heading_from_start c.new-reader.result c.args.bytes.now c.args.starts (ap (λ b. b.now) c.new-reader.ensures.bytes) c.new-reader.ensures.place ∙ (reads_ok c.in_ok-heading.ensures).0 in
    rw (p.1, p.2) (sym (ap heading_answer (load_headed c.args.bytes.now c.args.starts c.args.room h c.heading.new.self.at (Err c.in_err-count.field-0.0) first (l.invariant.4 ∙ ap (prefixed l.invariant.0) f))))

pub returns-in_err-total : goal.returns-in_err-total
returns-in_err-total c =
    let p = err_from_is_err_and c.from_residual-in_err-total.result c.from_residual-in_err-total.ensures.1 in
    let l = c.loop-i in
    let first = heading_from_start c.new-reader.result c.args.bytes.now c.args.starts (ap (λ b. b.now) c.new-reader.ensures.bytes) c.new-reader.ensures.place ∙ (reads_ok c.in_ok-heading.ensures).0 in
    rw (p.1, p.2) (sym (ap heading_answer (load_closed c.args.bytes.now c.args.starts c.args.room c.in_ok-heading.heading c.heading.new.self.at (c.in_ok-heading.heading.carriers - c.loop-i._i) l.used l.reader.at l.invariant.0
    (Err c.in_err-total.field-0.0) first l.invariant.4 (omega arith) l.invariant.1 (ap (λ b. closed_at b c.loop-i.used c.loop-i.reader.at) (sym l.invariant.3) ∙ sym c.in_err-total.ensures))))

pub returns : goal.returns
returns c =
    let l = c.loop-i in
    let first = heading_from_start c.new-reader.result c.args.bytes.now c.args.starts (ap (λ b. b.now) c.new-reader.ensures.bytes) c.new-reader.ensures.place ∙ (reads_ok c.in_ok-heading.ensures).0 in
    sym (ap heading_answer (load_closed c.args.bytes.now c.args.starts c.args.room c.in_ok-heading.heading c.heading.new.self.at (c.in_ok-heading.heading.carriers - c.loop-i._i) l.used l.reader.at l.invariant.0
    (Ok c.in_ok-total.field-0) first l.invariant.4 (omega arith) l.invariant.1 (ap (λ b. closed_at b c.loop-i.used c.loop-i.reader.at) (sym l.invariant.3) ∙ sym c.in_ok-total.ensures)))
