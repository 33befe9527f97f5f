use Rattle.std.proofs.Common.{◌≡◌, ◌<◌, ◌++◌, map, length, take, ap, ◌∙◌, arith}
use Rattle.std.proofs.lemmas.List.{take_all}
use Rattle.std.specs.List.{flat_map}
use Rattle.numbers.specs.Groups.{encoded}
use Rattle.outputs.proofs.Puts.{puts_same, puts_then}
use Rattle.sources.proofs.Reading.{row_length}
use Rattle.sources.specs.Meaning.{row_of}
use Rattle.sources.specs.Tables.{heading_of}
use Rattle.sources.specs.declared.records.Heading.{Heading}
use Rattle.sheetfile.specs.Layout.{entries_in, heading_bytes, row_bytes}
use Rattle.sheetfile.specs.Writing.{nonzero}
use Rattle.sheetfile.proofs.Bounds.{limits}
use Rattle.sheetfile.proofs.Writing.{entries_more, kept_short, rows_more, total_few}
use Rattle.sheetfile.proofs.writer.put_file.Goals as goal

pub overflow_add-total : goal.overflow_add-total
overflow_add-total g c =
    let m = g.S.Source.meaning c.args.source.now in
    let s = g.S.Source.sound c.args.source.now in
    omega (arith, c.loop-i.invariant.1, total_few m s c.requires c.loop-i.i (omega (arith, ap (λ (h : Heading). h.carriers) c.heading_of-heading.ensures)), c.put_row-total.ensures.count, kept_short (row_of m c.loop-i.i), row_length m s c.loop-i.i, (limits (heading_of m) c.requires).jobs_high)

pub loop-i-preserved : goal.loop-i-preserved
loop-i-preserved g c =
    let m = g.S.Source.meaning c.args.source.now in
    let inside : c.loop-i.i < length (g.S.Source.meaning c.args.source.now).rows = omega (arith, (g.S.Source.sound c.args.source.now).counted, ap (λ (h : Heading). h.carriers) c.heading_of-heading.ensures) in
    (puts_same (rows_more m.rows c.loop-i.i inside) (puts_then c.loop-i.invariant.0 c.put_row-total.ensures.row), omega (arith, c.loop-i.invariant.1, c.put_row-total.ensures.count, entries_more m.rows c.loop-i.i inside))

pub put_number-requires-4 : goal.put_number-requires-4
put_number-requires-4 g c =
    omega (arith, c.loop-i.invariant.1, total_few (g.S.Source.meaning c.args.source.now) (g.S.Source.sound c.args.source.now) c.requires c.loop-i.i (omega (arith, ap (λ (h : Heading). h.carriers) c.heading_of-heading.ensures)))

pub returns : goal.returns
returns g c =
    let m = g.S.Source.meaning c.args.source.now in
    let l = c.loop-i in
    let all : take c.loop-i.i (g.S.Source.meaning c.args.source.now).rows ≡ (g.S.Source.meaning c.args.source.now).rows = take_all l.i m.rows (omega (arith, (g.S.Source.sound c.args.source.now).counted, ap (λ (h : Heading). h.carriers) c.heading_of-heading.ensures)) in
    puts_same
    (ap (λ h. heading_bytes h ++ (flat_map row_bytes (map nonzero (take c.loop-i.i m.rows)) ++ encoded c.loop-i.total)) c.heading_of-heading.ensures
    ∙ ap (λ n. heading_bytes (heading_of m) ++ (flat_map row_bytes (map nonzero (take c.loop-i.i m.rows)) ++ encoded n)) l.invariant.1
    ∙ ap (λ rows. heading_bytes (heading_of m) ++ (flat_map row_bytes (map nonzero rows) ++ encoded (entries_in (map nonzero rows)))) all)
    (puts_then (puts_then c.put_number.ensures (puts_then c.put_number-2.ensures c.put_number-3.ensures)) (puts_then l.invariant.0 c.put_number-4.ensures))
