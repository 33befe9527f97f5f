use Rattle.std.proofs.Common.{◌≡◌, ◌++◌, drop, string_bytes, codes, decimal, sym, ap, ◌∙◌}
use Rattle.std.proofs.lemmas.Iterator.Consumers.{YieldsList-end, YieldsList-from_first}
use Rattle.std.proofs.lemmas.List.{append_assoc, map-id}
use Rattle.std.proofs.lemmas.Result.{on_ok_weaker}
use Rattle.std.specs.List.{flat_map}
use Rattle.sources.specs.Meaning.{row_of}
use Rattle.sources.specs.declared.row_entries.RowEntries.{RowEntries}
use Rattle.inspection.specs.Listing.{entry_text}
use Rattle.texts.specs.Telling.{newline}
use Rattle.inspection.proofs.append_row.Goals as goal

pub returns : goal.returns
returns g c =
    let row = row_of (g.S.Source.meaning c.args.source.now) c.args.carrier in
    let rest = λ (s : RowEntries _ g.S.Source). drop s.places.start (row_of (g.S.Source.meaning s.source.now) s.carrier) in
    let end = YieldsList-end (YieldsList-from_first (λ x. x) rest row (ap rest c.into_iter-job-iterator.ensures.into_iter_gives ∙ c.entries-job-items.ensures)) c.loop-job.yielded c.loop-job.job-iterator c.loop-job.yielded_by _ c.next.new.self c.in-None.is c.next.ensures.steps in
    let all : c.loop-job.yielded ≡ row = sym (map-id c.loop-job.yielded) ∙ end.0 in
    let text = string_bytes c.args.text.now in
    let front = decimal c.args.carrier ++ codes ":" in
    on_ok_weaker c.writeln.result
    (λ e. e ∙ ap (λ bs. bs ++ newline) (c.loop-job.invariant ∙ ap (λ bs. bs ++ flat_map entry_text c.loop-job.yielded) c.in_ok-write.ensures.bytes ∙ ap (λ es. (text ++ front) ++ flat_map entry_text es) all)
    ∙ ap (λ bs. bs ++ newline) (append_assoc text front (flat_map entry_text row)) ∙ append_assoc text (front ++ flat_map entry_text row) newline ∙ ap (λ bs. text ++ bs) (append_assoc front (flat_map entry_text row) newline))
    c.writeln.ensures.bytes
