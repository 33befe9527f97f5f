use Rattle.std.proofs.Common.{◌≡◌, ◌-◌, [], ◌∷◌, ◌++◌, length, set, Ok, Err, List, ℕ, Bor, sym, ap, ◌∙◌, subst, arith}
use Rattle.std.proofs.lemmas.List.{append-nil, length_push}
use Rattle.std.proofs.lemmas.Result.{err_from_is_err_and}
use Rattle.sources.specs.Tables.{entry_of}
use Rattle.sheetfile.specs.Reading.{entries_from, entry_from, row_from}
use Rattle.sheetfile.specs.Steps.{prefixed}
use Rattle.sheetfile.specs.Tables.{BeginsWith, row_count}
use Rattle.sheetfile.proofs.Readers.{read_err, read_ok, reads_err, reads_ok}
use Rattle.sheetfile.proofs.Rows.{begins_none, begins_past, begins_set, entries_fault, entries_none, held, one_more, prefixed_none, refused, row_entries, row_fault}
use Rattle.sheetfile.proofs.reader.Reader.row.Goals.{else-k-table, then-k-table}
use Rattle.sheetfile.proofs.reader.Reader.row.Goals as goal

pub returns-in_err-count : goal.returns-in_err-count
returns-in_err-count c =
    let p = err_from_is_err_and c.from_residual.result c.from_residual.ensures.1 in
    let f = row_fault c.args.self.now.bytes.now c.args.heading c.args.self.now.at _ (reads_err c.in_err-count.ensures).0 in
    rw (p.1, p.2) (record { reads = read_err c.args.self.now _ _ (ap row_count f); held = refused c.args.table.now _ _ f })

pub returns-in_err-job : goal.returns-in_err-job
returns-in_err-job c =
    let p = err_from_is_err_and c.from_residual-in_err-job.result c.from_residual-in_err-job.ensures.1 in
    let l = c.loop-k in
    let e : entry_from c.args.self.now.bytes.now c.args.heading c.loop-k.low c.loop-k.ahead.at ≡ Err c.in_err-job.field-0.0 =
    ap (λ (b : Bor (List ℕ)). entry_from b.now c.args.heading c.loop-k.low c.loop-k.ahead.at) (sym l.invariant.3) ∙ (reads_err c.in_err-job.ensures).0 in
    let g = entries_fault c.args.self.now.bytes.now c.args.heading (c.in_ok-count.count - l.k) l.low l.ahead.at _ (omega arith) e in
    let f = row_entries c.args.self.now.bytes.now c.args.heading c.args.self.now.at _ _ _ (reads_ok c.in_ok-count.ensures).0 (l.invariant.4 ∙ ap (prefixed l.invariant.0) g) in
    rw (p.1, p.2) (record { reads = read_err c.args.self.now _ _ (ap row_count f); held = refused l.table _ _ f })

pub loop-k-init : goal.loop-k-init
loop-k-init c =
    let e : c.in_ok-count.count ≡ c.in_ok-count.count - 0 = omega arith in (
      [],
      omega arith,
      begins_none c.args.table.now,
      (reads_ok c.in_ok-count.ensures).1,
      ap (λ n. entries_from c.args.self.now.bytes.now c.args.heading n 0 c.number.new.self.at) e ∙ sym (prefixed_none (entries_from c.args.self.now.bytes.now c.args.heading (c.in_ok-count.count - 0) 0 c.number.new.self.at)),
    )

pub loop-k-preserved : goal.loop-k-preserved
loop-k-preserved c =
    let l = c.loop-k in
    let r = reads_ok c.in_ok-job.ensures in
    let done = l.invariant.0 in
    let begins : BeginsWith c.if-k-table.table (c.loop-k.invariant.0 ++ (c.in_ok-job.job, c.in_ok-job.worth) ∷ []) =
    elim c.if-k-table.branch [
      | then-k-table w ↦
          subst (λ t. BeginsWith t (c.loop-k.invariant.0 ++ (c.in_ok-job.job, c.in_ok-job.worth) ∷ [])) (sym w.table-is)
          (subst (λ k. BeginsWith (set c.loop-k.table k (entry_of (c.in_ok-job.job, c.in_ok-job.worth))) (c.loop-k.invariant.0 ++ (c.in_ok-job.job, c.in_ok-job.worth) ∷ [])) c.loop-k.invariant.1
          (begins_set c.loop-k.table c.loop-k.invariant.0 (c.in_ok-job.job, c.in_ok-job.worth) c.loop-k.invariant.2 (omega (arith, w.if-k-table.true, c.loop-k.invariant.1))))
      | else-k-table w ↦
          subst (λ t. BeginsWith t (c.loop-k.invariant.0 ++ (c.in_ok-job.job, c.in_ok-job.worth) ∷ [])) (sym w.table-is)
          (begins_past c.loop-k.table c.loop-k.invariant.0 (c.in_ok-job.job, c.in_ok-job.worth) c.loop-k.invariant.2 (omega (arith, w.if-k-table.false, c.loop-k.invariant.1)))
    ] in (
      done ++ (c.in_ok-job.job, c.in_ok-job.worth) ∷ [],
      omega (arith, length_push done (c.in_ok-job.job, c.in_ok-job.worth), l.invariant.1),
      begins,
      r.1 ∙ l.invariant.3,
      one_more c.args.self.now.bytes.now c.args.heading c.in_ok-count.count l.k l.low l.ahead.at (c.in_ok-job.job, c.in_ok-job.worth) c.entry.new.self.at done _ (omega arith)
          (ap (λ (b : Bor (List ℕ)). entry_from b.now c.args.heading c.loop-k.low c.loop-k.ahead.at) (sym l.invariant.3) ∙ r.0) l.invariant.4,
    )

pub returns : goal.returns
returns c =
    let l = c.loop-k in
    let g = entries_none c.args.self.now.bytes.now c.args.heading (c.in_ok-count.count - l.k) l.low l.ahead.at (omega arith) in
    let f : row_from c.args.self.now.bytes.now c.args.heading c.args.self.now.at ≡ Ok (c.loop-k.invariant.0, c.loop-k.ahead.at) =
    row_entries c.args.self.now.bytes.now c.args.heading c.args.self.now.at _ _ _ (reads_ok c.in_ok-count.ensures).0 (l.invariant.4 ∙ ap (prefixed l.invariant.0) g ∙ ap (λ row. Ok (row, c.loop-k.ahead.at)) (append-nil l.invariant.0)) in
    let e : length c.loop-k.invariant.0 ≡ c.in_ok-count.count = omega (arith, l.invariant.1) in
    record {
      reads = read_ok c.args.self.now c.loop-k.ahead c.in_ok-count.count _ l.invariant.3 (ap row_count f ∙ ap (λ n. Ok (n, c.loop-k.ahead.at)) e);
      held = held l.table l.invariant.0 l.ahead.at _ l.invariant.2 f;
    }
