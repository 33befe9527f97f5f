use Rattle.std.proofs.Common.{◌≤◌, length, get_or, sym, arith, rules}
use Rattle.sources.specs.Sheets.{sheet_row}
use Rattle.sources.specs.Laws.Indexed.{nth_made, nth_not_made}
use Rattle.sources.specs.Laws.Starts.{started, below}
use Rattle.sources.proofs.sheets.Sheet.row.Goals as goal

pub offset_bounds-self-self : goal.offset_bounds-self-self
offset_bounds-self-self c =
    let s = c.args.self.now in
    let b : get_or s.starts.now c.args.carrier 0 ≤ length s.entries.now = below s.heading s.starts.now (length s.entries.now) (started _ _ _ s.started) c.args.carrier (omega arith) in
    search rules

pub slice_bounds-result-count : goal.slice_bounds-result-count
slice_bounds-result-count c =
    let s = c.args.self.now in
    (started s.heading s.starts.now (length s.entries.now) s.started).rises c.args.carrier c.if-carrier-self.true

pub slice_bounds-result-start : goal.slice_bounds-result-start
slice_bounds-result-start c =
    let s = c.args.self.now in
    (started s.heading s.starts.now (length s.entries.now) s.started).rises c.args.carrier c.if-carrier-self.true

pub slice_bounds-result-end : goal.slice_bounds-result-end
slice_bounds-result-end c =
    let s = c.args.self.now in
    below s.heading s.starts.now (length s.entries.now) (started s.heading s.starts.now (length s.entries.now) s.started) _ (omega arith)

pub returns-then-carrier-self : goal.returns-then-carrier-self
returns-then-carrier-self c =
    let s = c.args.self.now in
    sym (nth_made (sheet_row s.starts.now s.entries.now) s.heading.carriers c.args.carrier c.if-carrier-self.true)

pub returns-else-carrier-self : goal.returns-else-carrier-self
returns-else-carrier-self c =
    let s = c.args.self.now in
    sym (nth_not_made (sheet_row s.starts.now s.entries.now) s.heading.carriers c.args.carrier c.if-carrier-self.false)
