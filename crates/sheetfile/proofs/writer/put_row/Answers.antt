use Rattle.std.proofs.Common.{◌≡◌, [], ◌++◌, drop, length, sym, ap, ◌∙◌, subst, arith}
use Rattle.std.proofs.ByRecursion.{All-get_or}
use Rattle.std.proofs.lemmas.Iterator.Consumers.{YieldsList-end, YieldsList-from_first, YieldsList-turn}
use Rattle.std.proofs.lemmas.List.{flat_map_more, map-id}
use Rattle.std.specs.List.{flat_map}
use Rattle.numbers.specs.Groups.{encoded}
use Rattle.outputs.proofs.Puts.{puts_same, puts_then}
use Rattle.sources.proofs.Reading.{row_length}
use Rattle.sources.specs.Meaning.{row_of}
use Rattle.sources.specs.declared.row_entries.RowEntries.{RowEntries}
use Rattle.sheetfile.specs.Writing.{nonzero, nonzero_bytes}
use Rattle.sheetfile.proofs.Writing.{Small, kept_short, parts_all, row_light}
use Rattle.sheetfile.proofs.writer.put_row.Goals as goal

pub put_number-requires : goal.put_number-requires
put_number-requires g c =
    let m = g.S.Source.meaning c.args.source.now in
    omega (arith, row_length m (g.S.Source.sound c.args.source.now) c.args.carrier, kept_short (row_of m c.args.carrier), c.nonzero_count-count.ensures, c.requires.jobs)

pub put_entry-requires : goal.put_entry-requires
put_entry-requires g c =
    let m = g.S.Source.meaning c.args.source.now in
    let row = row_of (g.S.Source.meaning c.args.source.now) c.args.carrier in
    let rest = λ (s : RowEntries _ g.S.Source). drop s.places.start (row_of (g.S.Source.meaning s.source.now) s.carrier) in
    let all = YieldsList-from_first (λ x. x) rest row (ap rest c.into_iter-job-iterator.ensures.into_iter_gives ∙ c.entries-job-items.ensures) in
    let turn = YieldsList-turn all c.loop-job.yielded c.loop-job.job-iterator c.loop-job.yielded_by _ c.next.new.self (c.in-Some.job, c.in-Some.worth) c.in-Some.is c.next.ensures.steps in
    let small : Small (c.in-Some.job, c.in-Some.worth) =
    subst Small (sym turn.1) (All-get_or Small row (length c.loop-job.yielded) (c.in-Some.job, c.in-Some.worth) turn.0 (row_light m (g.S.Source.sound c.args.source.now) c.requires.jobs c.requires.ceiling c.args.carrier).1) in
    record { job = small.0; worth = small.1 }

pub loop-job-preserved : goal.loop-job-preserved
loop-job-preserved g c = puts_same (flat_map_more nonzero_bytes [] c.loop-job.yielded (c.in-Some.job, c.in-Some.worth)) (puts_then c.loop-job.invariant c.put_entry.ensures)

pub returns-clause-row : goal.returns-clause-row
returns-clause-row g c =
    let row = row_of (g.S.Source.meaning c.args.source.now) c.args.carrier in
    let rest = λ (s : RowEntries _ g.S.Source). drop s.places.start (row_of (g.S.Source.meaning s.source.now) s.carrier) in
    let end = YieldsList-end (YieldsList-from_first (λ x. x) rest row (ap rest c.into_iter-job-iterator.ensures.into_iter_gives ∙ c.entries-job-items.ensures)) c.loop-job.yielded c.loop-job.job-iterator c.loop-job.yielded_by _ c.next.new.self c.in-None.is c.next.ensures.steps in
    let all : c.loop-job.yielded ≡ row = sym (map-id c.loop-job.yielded) ∙ end.0 in
    puts_same (ap (λ n. encoded n ++ flat_map nonzero_bytes c.loop-job.yielded) c.nonzero_count-count.ensures ∙ ap (λ l. encoded (length (nonzero row)) ++ l) (ap (flat_map nonzero_bytes) all ∙ parts_all row)) (puts_then c.put_number.ensures c.loop-job.invariant)
