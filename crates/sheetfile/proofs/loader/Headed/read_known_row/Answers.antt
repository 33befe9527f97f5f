use Rattle.std.proofs.Common.{◌≡◌, ◌+◌, ◌-◌, ◌≤◌, length, drop, sym, ◌∙◌, arith, rules}
use Rattle.std.proofs.lemmas.List.{length-drop, length-take}
use Rattle.sheetfile.specs.States.{stand}
use Rattle.sheetfile.proofs.Known.{known}
use Rattle.sheetfile.proofs.Steps.{err_not_ok}
use Rattle.sheetfile.proofs.Taking.{begun_row, row_read, takes_announced}
use Rattle.sheetfile.proofs.loader.Headed.read_known_row.Goals as goal

pub returns-in_err-count : goal.returns-in_err-count
returns-in_err-count c =
    let k = known (stand c.args.self.now) (length c.args.starts.now) (length c.args.entries.now) c.requires in
    err_not_ok c.in_err-count.field-0.0 (length k.0.0) (sym c.in_err-count.was ∙ c.announced.ensures ∙ k.2)

pub overflow_add-low : goal.overflow_add-low
overflow_add-low c =
    let k = takes_announced (stand c.args.self.now) (length c.args.starts.now) (length c.args.entries.now) c.in_ok-count.count c.requires (sym c.in_ok-count.was ∙ c.announced.ensures) in
    let m : c.min-low.result + c.in_ok-count.count ≤ length c.args.entries.now = omega (arith, k.fits, c.min-low.ensures) in
    search rules

pub slice_bounds-row-end : goal.slice_bounds-row-end
slice_bounds-row-end c =
    let k = takes_announced (stand c.args.self.now) (length c.args.starts.now) (length c.args.entries.now) c.in_ok-count.count c.requires (sym c.in_ok-count.was ∙ c.announced.ensures) in
    omega (arith, k.fits, c.min-low.ensures)

pub invariant_of-self-2 : goal.invariant_of-self-2
invariant_of-self-2 c =
    let k = takes_announced (stand c.args.self.now) (length c.args.starts.now) (length c.args.entries.now) c.in_ok-count.count c.requires (sym c.in_ok-count.was ∙ c.announced.ensures) in
    record { begun = begun_row (stand c.args.self.now) c.args.starts.now c.args.entries.now c.in_ok-count.count k c.row.new.self c.row.ensures.reads.place c.args.self.now.begun }

pub returns-clause-after : goal.returns-clause-after
returns-clause-after c =
    let k = takes_announced (stand c.args.self.now) (length c.args.starts.now) (length c.args.entries.now) c.in_ok-count.count c.requires (sym c.in_ok-count.was ∙ c.announced.ensures) in
    let low = c.min-low.result in
    let long : length c.row.new.table ≡ c.in_ok-count.count =
    omega (arith, c.row.auto.table, k.fits, c.min-low.ensures, length-take (low + c.in_ok-count.count - low) (drop c.min-low.result c.args.entries.now), length-drop c.min-low.result c.args.entries.now) in
    row_read (stand c.args.self.now) c.args.starts.now c.args.entries.now c.in_ok-count.count k c.row.new.self c.row.ensures.reads.place c.row.new.table low c.min-low.ensures long c.row.ensures.held
