use Rattle.std.proofs.Common.{◌≡◌, length, drop, length-drop, length-take, ◌+◌, ◌-◌, [], ◌∷◌, ◌++◌, Ok, Err, sym, refl, ap, ◌∙◌, subst, arith}
use Rattle.std.proofs.lemmas.Result.{err_from_is_err_and}
use Rattle.sheetfile.specs.Reading.{closed_at, loaded, row_from, row_in, rows_from}
use Rattle.sheetfile.specs.Steps.{prefixed}
use Rattle.sheetfile.specs.Tables.{BeginsWith, HoldsRow, heading_answer}
use Rattle.sheetfile.specs.Layout.{meaning_of}
use Rattle.sources.specs.Tables.{entries_of, starts_of}
use Rattle.numbers.specs.Writing.{over}
use Rattle.sheetfile.proofs.Filling.{loads_then_fills}
use Rattle.sheetfile.proofs.Once.{entries_put, heading_fits, over_itself, starts_push}
use Rattle.std.proofs.lemmas.List.{length-set, take_more_set}
use Rattle.sheetfile.proofs.Readers.{heading_from_start, reads_err, reads_ok}
use Rattle.sheetfile.proofs.Rows.{prefixed_none}
use Rattle.sheetfile.proofs.Sheets.{entries_push, load_closed, load_fault, load_headed, row_fits, row_more, rows_fault}
use Rattle.sheetfile.proofs.Tables.{row_err, row_ok, updated_ok}
use Rattle.sheetfile.proofs.files.load_over.Goals as goal

pub returns-in_err-heading : goal.returns-in_err-heading
returns-in_err-heading c =
    let p = err_from_is_err_and c.from_residual.result c.from_residual.ensures.1 in
    let e = heading_from_start c.new-reader.result c.args.bytes.now (length c.args.starts.now) (ap (λ b. b.now) c.new-reader.ensures.bytes) c.new-reader.ensures.place ∙ (reads_err c.in_err-heading.ensures).0 in
    let q = load_fault c.args.bytes.now (length c.args.starts.now) (length c.args.entries.now) c.in_err-heading.field-0.0 e in
    rw (p.1, p.2) (record { answer = sym (ap heading_answer q); filling = sym q })

pub loop-i-init : goal.loop-i-init
loop-i-init c =
    let fits = heading_fits c.new-reader.result.bytes.now (length c.args.starts.now) c.new-reader.result.at (c.in_ok-heading.heading, c.heading.new.self.at) (reads_ok c.in_ok-heading.ensures).0 in
    let e : c.in_ok-heading.heading.carriers ≡ c.in_ok-heading.heading.carriers - 0 = omega arith in (
      [],
      refl,
      omega arith,
      ap (λ b. b.now) ((reads_ok c.in_ok-heading.ensures).1 ∙ c.new-reader.ensures.bytes),
      ap (λ n. rows_from c.args.bytes.now c.in_ok-heading.heading (length c.args.entries.now) n 0 c.heading.new.self.at) e
          ∙ sym (prefixed_none (rows_from c.args.bytes.now c.in_ok-heading.heading (length c.args.entries.now) (c.in_ok-heading.heading.carriers - 0) 0 c.heading.new.self.at)),
      omega (arith, fits, length-set c.args.starts.now 0 0),
      take_more_set c.args.starts.now 0 0 (omega (arith, fits)),
      refl,
    )

pub loop-i-preserved : goal.loop-i-preserved
loop-i-preserved c =
    let l = c.loop-i in
    let r = reads_ok c.in_ok-count.ensures.reads in
    let s = row_ok (row_in c.loop-i.reader.bytes.now c.in_ok-heading.heading (length c.args.entries.now) c.loop-i.used c.loop-i.reader.at) c.in_ok-count.count c.row_in.new.self.at r.0 in
    let is : row_in c.args.bytes.now c.in_ok-heading.heading (length c.args.entries.now) c.loop-i.used c.loop-i.reader.at ≡ Ok (s.0, c.row_in.new.self.at) =
    ap (λ b. row_in b c.in_ok-heading.heading (length c.args.entries.now) c.loop-i.used c.loop-i.reader.at) (sym l.invariant.3) ∙ s.1 in
    let f = row_fits c.args.bytes.now c.in_ok-heading.heading (length c.args.entries.now) c.loop-i.used c.loop-i.reader.at (s.0, c.row_in.new.self.at) is in
    let same_room : length c.loop-i.entries ≡ length c.args.entries.now = c.loop-i.auto.entries in
    let begins : BeginsWith c.row_in.new.table s.0 = subst (λ q. HoldsRow q c.row_in.new.table) (ap (λ b. row_from b c.in_ok-heading.heading c.loop-i.reader.at) l.invariant.3 ∙ f.0) c.row_in.ensures.held in (
      l.invariant.0 ++ s.0 ∷ [],
      omega (arith, entries_push l.invariant.0 s.0, s.2, l.invariant.1),
      omega (arith, f.1, s.2, l.invariant.2),
      ap (λ b. b.now) r.1 ∙ l.invariant.3,
      row_more c.args.bytes.now c.in_ok-heading.heading (length c.args.entries.now) c.in_ok-heading.heading.carriers c.loop-i.i l.used l.reader.at s.0 c.row_in.new.self.at l.invariant.0 _ (omega arith) is l.invariant.4
          ∙ ap (λ n. prefixed (c.loop-i.invariant.0 ++ s.0 ∷ []) (rows_from c.args.bytes.now c.in_ok-heading.heading (length c.args.entries.now) (c.in_ok-heading.heading.carriers - (c.loop-i.i + 1)) (c.loop-i.used + n) c.row_in.new.self.at)) s.2,
      omega (arith, l.invariant.5, length-set l.starts (l.i + 1) (l.used + c.in_ok-count.count)),
      starts_push l.starts l.i (l.used + c.in_ok-count.count) l.invariant.0 s.0 l.invariant.6 (omega (arith, l.invariant.1, s.2)) (omega (arith, l.invariant.5, c.loop-i-test.true)),
      entries_put l.entries c.row_in.new.table l.used _ c.in_ok-count.count l.invariant.0 s.0 l.invariant.7 begins (sym s.2) (omega (arith, l.invariant.2, same_room)) (omega (arith, c.row_in.auto.table, f.1, s.2, l.invariant.2, same_room, length-drop l.used l.entries, length-take (length l.entries - l.used) (drop l.used l.entries))),
    )

pub returns-in_err-count : goal.returns-in_err-count
returns-in_err-count c =
    let p = err_from_is_err_and c.from_residual-in_err-count.result c.from_residual-in_err-count.ensures.1 in
    let l = c.loop-i in
    let h = c.in_ok-heading.heading in
    let e = row_err (row_in c.loop-i.reader.bytes.now c.in_ok-heading.heading (length c.args.entries.now) l.used l.reader.at) c.in_err-count.field-0.0 (reads_err c.in_err-count.ensures.reads).0 in
    let f = rows_fault c.args.bytes.now h (length c.args.entries.now) (c.in_ok-heading.heading.carriers - c.loop-i.i) l.used l.reader.at c.in_err-count.field-0.0 (omega arith) (ap (λ b. row_in b c.in_ok-heading.heading (length c.args.entries.now) c.loop-i.used c.loop-i.reader.at) (sym l.invariant.3) ∙ e) in
    let first = heading_from_start c.new-reader.result c.args.bytes.now (length c.args.starts.now) (ap (λ b. b.now) c.new-reader.ensures.bytes) c.new-reader.ensures.place ∙ (reads_ok c.in_ok-heading.ensures).0 in
    let q = load_headed c.args.bytes.now (length c.args.starts.now) (length c.args.entries.now) h c.heading.new.self.at (Err c.in_err-count.field-0.0) first (l.invariant.4 ∙ ap (prefixed l.invariant.0) f) in
    rw (p.1, p.2) (record { answer = sym (ap heading_answer q); filling = sym q })

pub returns-in_err-total : goal.returns-in_err-total
returns-in_err-total c =
    let p = err_from_is_err_and c.from_residual-in_err-total.result c.from_residual-in_err-total.ensures.1 in
    let l = c.loop-i in
    let first = heading_from_start c.new-reader.result c.args.bytes.now (length c.args.starts.now) (ap (λ b. b.now) c.new-reader.ensures.bytes) c.new-reader.ensures.place ∙ (reads_ok c.in_ok-heading.ensures).0 in
    let q = load_closed c.args.bytes.now (length c.args.starts.now) (length c.args.entries.now) c.in_ok-heading.heading c.heading.new.self.at (c.in_ok-heading.heading.carriers - c.loop-i.i) l.used l.reader.at l.invariant.0 (Err c.in_err-total.field-0.0) first l.invariant.4 (omega arith) l.invariant.1 (ap (λ b. closed_at b c.loop-i.used c.loop-i.reader.at) (sym l.invariant.3) ∙ sym c.in_err-total.ensures) in
    rw (p.1, p.2) (record { answer = sym (ap heading_answer q); filling = sym q })

pub returns : goal.returns
returns c =
    let l = c.loop-i in
    let m = meaning_of c.in_ok-heading.heading l.invariant.0 in
    let first = heading_from_start c.new-reader.result c.args.bytes.now (length c.args.starts.now) (ap (λ b. b.now) c.new-reader.ensures.bytes) c.new-reader.ensures.place ∙ (reads_ok c.in_ok-heading.ensures).0 in
    let q = load_closed c.args.bytes.now (length c.args.starts.now) (length c.args.entries.now) c.in_ok-heading.heading c.heading.new.self.at (c.in_ok-heading.heading.carriers - c.loop-i.i) l.used l.reader.at l.invariant.0
    (Ok c.in_ok-total.field-0) first l.invariant.4 (omega arith) l.invariant.1 (ap (λ b. closed_at b c.loop-i.used c.loop-i.reader.at) (sym l.invariant.3) ∙ sym c.in_ok-total.ensures) in
    let ls : length c.loop-i.starts ≡ length c.args.starts.now = c.loop-i.auto.starts ∙ length-set c.args.starts.now 0 0 in
    let le : length c.loop-i.entries ≡ length c.args.entries.now = c.loop-i.auto.entries in
    let here : loaded c.args.bytes.now (length c.loop-i.starts) (length c.loop-i.entries) ≡ loaded c.args.bytes.now (length c.args.starts.now) (length c.args.entries.now) = λ i. loaded c.args.bytes.now (ls i) (le i) in
    let v = loaded c.args.bytes.now (length c.loop-i.starts) (length c.loop-i.entries) in
    let is : loaded c.args.bytes.now (length c.loop-i.starts) (length c.loop-i.entries) ≡ Ok (meaning_of c.in_ok-heading.heading c.loop-i.invariant.0) = here ∙ q in
    let n : c.loop-i.i + 1 ≡ length (starts_of c.loop-i.invariant.0) = omega (arith, sym (length-take (l.i + 1) l.starts) ∙ ap length l.invariant.6, l.invariant.5, l.auto.i-end) in
    let k : c.loop-i.used ≡ length (entries_of c.loop-i.invariant.0) = omega (arith, sym (length-take l.used l.entries) ∙ ap length l.invariant.7, l.invariant.2, le) in
    let ss = over_itself l.starts (starts_of l.invariant.0) (l.i + 1) n l.invariant.6 ∙ updated_ok v m c.loop-i.starts (λ m. over c.loop-i.starts 0 (starts_of m.rows)) is in
    let es = over_itself l.entries (entries_of l.invariant.0) l.used k l.invariant.7 ∙ updated_ok v m c.loop-i.entries (λ m. over c.loop-i.entries 0 (entries_of m.rows)) is in
    let told = sym (ap heading_answer q) in
    record {
      answer = told;
      filling = loads_then_fills c.args.bytes.now l.starts l.entries c.type_inv.bytes l.starts l.entries ss es (Ok c.in_ok-heading.heading) (told ∙ sym (ap heading_answer here)) ∙ here;
    }
