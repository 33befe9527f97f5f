use Rattle.std.proofs.Common.{◌≡◌, ◌<◌, length, is_ok, Ok, sym, ap, ◌∙◌, arith}
use Rattle.std.proofs.lemmas.List.{length-set}
use Rattle.sources.specs.Meaning.{Meaning}
use Rattle.sources.specs.Tables.{ends_of, entries_of, starts_of}
use Rattle.sources.specs.declared.records.Heading.{Heading}
use Rattle.sheetfile.specs.Tables.{heading_answer}
use Rattle.sheetfile.specs.Layout.{meaning_of}
use Rattle.sheetfile.specs.Reading.{heading_in, loaded}
use Rattle.sheetfile.specs.States.{closing, stand}
use Rattle.numbers.specs.Writing.{over}
use Rattle.sheetfile.proofs.Filling.{loads_exactly}
use Rattle.sheetfile.proofs.Loading.{accepted, closes_now, entries_done, underway_first, underway_next, heading_there, start_put, starts_done}
use Rattle.sheetfile.proofs.Overs.{over-set}
use Rattle.sheetfile.proofs.Steps.{err_not_ok}
use Rattle.sheetfile.proofs.Tables.{closed_err, closed_ok, headed_err, updated_ok}
use Rattle.sheetfile.proofs.files.load_surveyed.Goals as goal

pub returns-in_err-loader : goal.returns-in_err-loader
returns-in_err-loader c =
    let there = heading_there c.args.bytes.now c.args.starts.now c.args.entries.now c.args.surveyed c.new.result c.new.ensures c.requires in
    err_not_ok c.in_err-loader.field-0.0.fault _ (sym (headed_err c.new.result (heading_in c.new.result.bytes.now (length c.args.starts.now)) c.in_err-loader.field-0.0 c.in_err-loader.ensures.answer) ∙ there)

pub loop-i-init : goal.loop-i-init
loop-i-init c =
    underway_first c.args.bytes.now c.args.starts.now c.args.entries.now c.args.surveyed c.new.result c.new.ensures c.requires c.read_heading.new.starts
    c.in_ok-loader.ensures.starts (stand c.in_ok-loader.loader) c.in_ok-loader.ensures.answer

pub read_known_row-requires : goal.read_known_row-requires
read_known_row-requires c =
    let l = c.loop-i in
    ap is_ok (accepted c.args.bytes.now c.read_heading.new.starts c.args.entries.now c.args.surveyed.carriers l._i (stand l.loader) l.starts l.entries l.invariant l.auto.starts l.auto.entries c.loop-i-test.true)

pub returns-in_err-read_known_row : goal.returns-in_err-read_known_row
returns-in_err-read_known_row c = err_not_ok c.in_err-read_known_row.field-0.0 tt c.in_err-read_known_row.ensures.answer

pub loop-i-preserved : goal.loop-i-preserved
loop-i-preserved c =
    let l = c.loop-i in
    let r = c.read_known_row in
    underway_next c.args.bytes.now c.read_heading.new.starts c.args.entries.now c.args.surveyed.carriers l._i (stand l.loader) l.starts l.entries l.invariant l.auto.starts l.auto.entries c.loop-i-test.true
    (stand r.new.self) r.new.starts r.new.entries r.ensures.after.loader r.ensures.after.starts_are r.ensures.after.entries_are

pub returns : goal.returns
returns c =
    let l = c.loop-i in
    let put = start_put c.args.bytes.now c.args.starts.now c.args.entries.now c.args.surveyed c.new.result c.new.ensures c.requires c.read_heading.new.starts c.in_ok-loader.ensures.starts in
    let len : length c.read_heading.new.starts ≡ length c.args.starts.now = ap length put ∙ length-set c.args.starts.now 0 0 in
    let some : 0 < length c.args.starts.now = omega (arith, l.invariant.long, len) in
    let whole : loaded c.args.bytes.now (length c.args.starts.now) (length c.args.entries.now) ≡ Ok (meaning_of c.loop-i.loader.heading c.loop-i.invariant.all) = ap (λ n. loaded c.args.bytes.now n (length c.args.entries.now)) (sym len) ∙ l.invariant.whole in
    let v = loaded c.args.bytes.now (length c.args.starts.now) (length c.args.entries.now) in
    let ss = starts_done c.args.bytes.now c.read_heading.new.starts c.args.entries.now c.args.surveyed.carriers l._i (stand l.loader) l.starts l.entries l.invariant l.auto.starts l.auto.entries c.loop-i-test.false in
    let es = entries_done c.args.bytes.now c.read_heading.new.starts c.args.entries.now c.args.surveyed.carriers l._i (stand l.loader) l.starts l.entries l.invariant l.auto.starts l.auto.entries c.loop-i-test.false in
    let x : Meaning = meaning_of c.loop-i.loader.heading c.loop-i.invariant.all in
    let told = ap (λ (z : Heading). Ok z) (c.heading.ensures ∙ closed_ok c.loop-i.loader (closing (stand c.loop-i.loader)) c.in_ok-close.field-0 c.in_ok-close.ensures.answer) ∙ sym (ap heading_answer whole) in
    let ss' = ss ∙ ap (λ z. over z 1 (ends_of 0 c.loop-i.invariant.all)) put ∙ over-set c.args.starts.now 0 0 (ends_of 0 l.invariant.all) some ∙ updated_ok v x c.args.starts.now (λ m. over c.args.starts.now 0 (starts_of m.rows)) whole in
    let es' = es ∙ updated_ok v x c.args.entries.now (λ m. over c.args.entries.now 0 (entries_of m.rows)) whole in
    record {
      answer = told ∙ sym c.requires;
      starts = ss';
      entries = es';
      exact = loads_exactly c.args.bytes.now c.args.starts.now c.args.entries.now c.type_inv.bytes c.loop-i.starts c.loop-i.entries ss' es' (Ok c.heading.result) told;
    }

pub returns-in_err-close : goal.returns-in_err-close
returns-in_err-close c =
    let l = c.loop-i in
    let closes = closes_now c.args.bytes.now c.read_heading.new.starts c.args.entries.now c.args.surveyed.carriers l._i (stand l.loader) l.starts l.entries l.invariant l.auto.starts l.auto.entries c.loop-i-test.false in
    err_not_ok c.in_err-close.field-0.0.fault tt (sym (closed_err c.loop-i.loader (closing (stand c.loop-i.loader)) c.in_err-close.field-0.0 c.in_err-close.ensures.answer) ∙ closes)
