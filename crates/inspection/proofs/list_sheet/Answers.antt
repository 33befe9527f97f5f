use Rattle.std.proofs.Common.{◌≡◌, ◌<◌, ◌≤◌, ◌++◌, length, take, string_bytes, ap, ◌∙◌, arith}
use Rattle.std.proofs.lemmas.List.{append_assoc, take_all}
use Rattle.sources.specs.Laws.SheetSound.{sheet_sound}
use Rattle.sources.specs.Meaning.{Sound, row_of}
use Rattle.sources.specs.OfSheet.{sheet_meaning}
use Rattle.sources.proofs.Reading.{row_length}
use Rattle.sheetfile.specs.Layout.{entries_in}
use Rattle.inspection.specs.Listing.{heading_line, last_line, row_line, row_lines}
use Rattle.inspection.proofs.Lines.{assembled, count_more, entries_few, few_listed, lines_more}
use Rattle.inspection.proofs.list_sheet.Goals as goal

pub overflow_add-count : goal.overflow_add-count
overflow_add-count c =
    let s = c.args.sheet.now in
    let m = sheet_meaning s in
    let sound : Sound m = sheet_sound s.heading s.starts.now s.entries.now s.limited s.started s.faultless in
    let few = few_listed s.heading s.limited in
    let inside : c.loop-i.i ≤ m.carriers = omega (arith, ap (λ h. h.carriers) c.heading_of-carriers.ensures, c.loop-i-test.true) in
    omega (arith, c.loop-i.invariant.0, entries_few m sound few.1 few.0 c.loop-i.i inside, row_length m sound c.loop-i.i, c.row_length.ensures, few.1)

pub loop-i-preserved : goal.loop-i-preserved
loop-i-preserved c =
    let s = c.args.sheet.now in
    let m = sheet_meaning s in
    let sound : Sound m = sheet_sound s.heading s.starts.now s.entries.now s.limited s.started s.faultless in
    let inside : c.loop-i.i < length m.rows = omega (arith, sound.counted, ap (λ h. h.carriers) c.heading_of-carriers.ensures, c.loop-i-test.true) in (
      omega (arith, c.row_length.ensures, c.loop-i.invariant.0, count_more m.rows c.loop-i.i inside),
      c.in_ok-append_row.ensures ∙ ap (λ bs. bs ++ row_line c.loop-i.i (row_of m c.loop-i.i)) c.loop-i.invariant.1
          ∙ append_assoc (string_bytes c.writeln.new.self) (row_lines 0 (take c.loop-i.i m.rows)) (row_line c.loop-i.i (row_of m c.loop-i.i))
          ∙ ap (λ bs. string_bytes c.writeln.new.self ++ bs) (lines_more m.rows c.loop-i.i inside),
    )

pub returns : goal.returns
returns c =
    let s = c.args.sheet.now in
    let m = sheet_meaning s in
    let sound : Sound m = sheet_sound s.heading s.starts.now s.entries.now s.limited s.started s.faultless in
    let all : take c.loop-i.i m.rows ≡ m.rows = take_all c.loop-i.i m.rows (omega (arith, sound.counted, ap (λ h. h.carriers) c.heading_of-carriers.ensures, c.loop-i-test.false)) in
    let line = ap (λ h. heading_line (record { carriers = h.carriers; jobs = h.jobs; ceiling = h.ceiling; rows = m.rows })) c.heading_of-carriers.ensures in
    assembled (string_bytes c.new-text.result) (string_bytes c.writeln.new.self) (string_bytes c.loop-i.text) (string_bytes c.writeln-2.new.self) (heading_line m) (row_lines 0 m.rows) (last_line (entries_in m.rows) c.args.size)
    c.new-text.ensures.bytes
    (c.in_ok-writeln.ensures.bytes ∙ ap (λ bs. string_bytes c.new-text.result ++ bs) line)
    (c.loop-i.invariant.1 ∙ ap (λ rows. string_bytes c.writeln.new.self ++ row_lines 0 rows) all)
    (c.in_ok-writeln-2.ensures.bytes ∙ ap (λ n. string_bytes c.loop-i.text ++ last_line n c.args.size) (c.loop-i.invariant.0 ∙ ap entries_in all))
