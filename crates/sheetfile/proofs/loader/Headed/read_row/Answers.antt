use Rattle.std.proofs.Common.{◌≡◌, ◌+◌, ◌-◌, length, drop, Ok, Err, sym, ap, ◌∙◌, arith}
use Rattle.std.proofs.lemmas.Result.{err_from_is_err_and}
use Rattle.std.proofs.lemmas.List.{length-drop, length-take}
use Rattle.sheetfile.specs.States.{next_row, stand}
use Rattle.sheetfile.specs.Steps.{without_value}
use Rattle.sheetfile.proofs.Exactly.{reads_in_order}
use Rattle.sheetfile.proofs.Tables.{not_counted}
use Rattle.sheetfile.proofs.Taking.{begun_row, none_read, row_read, takes_counted}
use Rattle.sheetfile.proofs.loader.Headed.read_row.Goals as goal

pub returns-in_err-count-clause-after : goal.returns-in_err-count-clause-after
returns-in_err-count-clause-after c =
    let v = next_row (stand c.args.self.now) (length c.args.starts.now) (length c.args.entries.now) in
    none_read (stand c.args.self.now) c.args.starts.now c.args.entries.now c.in_err-count.field-0.0 (not_counted v c.in_err-count.field-0.0 c.in_err-count.ensures)

pub returns-in_err-count-clause-file : goal.returns-in_err-count-clause-file
returns-in_err-count-clause-file c m file =
    let v = next_row (stand c.args.self.now) (length c.args.starts.now) (length c.args.entries.now) in
    let p = err_from_is_err_and c.from_residual.result c.from_residual.ensures.1 in
    let e = not_counted v c.in_err-count.field-0.0 c.in_err-count.ensures in
    reads_in_order (stand c.args.self.now) c.args.self.now.begun m file c.args.starts.now c.args.entries.now c.from_residual.result c.args.starts.now c.args.entries.now (p.1 ∙ ap Err p.2 ∙ sym (ap without_value e))
    (stand c.args.self.now) (none_read (stand c.args.self.now) c.args.starts.now c.args.entries.now c.in_err-count.field-0.0 e)

pub invariant_of-self-2 : goal.invariant_of-self-2
invariant_of-self-2 c =
    let k = takes_counted (stand c.args.self.now) (length c.args.starts.now) (length c.args.entries.now) c.in_ok-count.count c.in_ok-count.ensures in
    record { begun = begun_row (stand c.args.self.now) c.args.starts.now c.args.entries.now c.in_ok-count.count k c.row.new.self c.row.ensures.reads.place c.args.self.now.begun }

pub returns-clause-after : goal.returns-clause-after
returns-clause-after c =
    let k = takes_counted (stand c.args.self.now) (length c.args.starts.now) (length c.args.entries.now) c.in_ok-count.count c.in_ok-count.ensures in
    let place = c.min-place.result in
    let long : length c.row.new.table ≡ c.in_ok-count.count =
    omega (arith, c.row.auto.table, k.fits, c.min-place.ensures, length-take (place + c.in_ok-count.count - place) (drop c.min-place.result c.args.entries.now), length-drop c.min-place.result c.args.entries.now) in
    row_read (stand c.args.self.now) c.args.starts.now c.args.entries.now c.in_ok-count.count k c.row.new.self c.row.ensures.reads.place c.row.new.table place c.min-place.ensures long c.row.ensures.held

pub returns-clause-file : goal.returns-clause-file
returns-clause-file c m file =
    let k = takes_counted (stand c.args.self.now) (length c.args.starts.now) (length c.args.entries.now) c.in_ok-count.count c.in_ok-count.ensures in
    reads_in_order (stand c.args.self.now) c.args.self.now.begun m file c.args.starts.now c.args.entries.now (Ok tt) _ _ (sym (ap without_value k.accepted)) _ (returns-clause-after c)
