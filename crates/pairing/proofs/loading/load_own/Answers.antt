use Rattle.std.proofs.Common.{◌≡◌, ℕ, List, get_or, Fits, w8, Ok, Err, IfOk, Result, ap, ◌∙◌, sym, subst, arith}
use Rattle.refusals.specs.declared.Fault.{Fault}
use Rattle.sources.specs.Meaning.{Meaning}
use Rattle.sheetfile.specs.Layout.{SheetFile}
use Rattle.sheetfile.specs.Reading.{loaded_within}
use Rattle.sheetfile.specs.Steps.{updated, without_value}
use Rattle.sheetfile.specs.Tables.{sheet_held}
use Rattle.sheetfile.proofs.Filling.{within_file}
use Rattle.sheetfile.proofs.Small.{room_loaded}
use Rattle.pairing.proofs.loading.load_own.Goals as goal

-- What is held after a load within the limits is the sheet of the file.
file_held : (bs : List ℕ) → ((i : ℕ) → Fits w8 (get_or bs i 0)) → (old new : Meaning) (r : Result (Unit {0}) Fault) (l : Result Meaning Fault) → loaded_within bs ≡ l →
    r ≡ without_value l → new ≡ updated l old (λ m. m) → IfOk r (λ _. SheetFile bs new)
file_held bs typed old new (Err e) l is told held = tt
file_held bs typed old new (Ok u) (Err e) is told held = cc
file_held bs typed old new (Ok u) (Ok m) is told held = subst (SheetFile bs) (sym held) (within_file bs typed m is)

pub returns-clause-answer : goal.returns-clause-answer
returns-clause-answer g c =
    c.load.ensures.answer ∙ ap without_value (room_loaded c.args.bytes.now 129 g.row.ENTRIES (λ i. 129) c.requires.room (omega arith))

pub returns-clause-holds : goal.returns-clause-holds
returns-clause-holds g c =
    let old = sheet_held c.args.tables.now.heading c.args.tables.now.starts c.args.tables.now.entries in
    c.load.ensures.holds ∙ ap (λ l. updated l old (λ m. m)) (room_loaded c.args.bytes.now 129 g.row.ENTRIES (λ i. 129) c.requires.room (omega arith))

pub returns-clause-file : goal.returns-clause-file
returns-clause-file g c =
    let old = sheet_held c.args.tables.now.heading c.args.tables.now.starts c.args.tables.now.entries in
    let new = sheet_held c.load.new.self.heading c.load.new.self.starts c.load.new.self.entries in
    file_held c.args.bytes.now c.type_inv.bytes old new c.load.result (loaded_within c.args.bytes.now) (λ i. loaded_within c.args.bytes.now) (returns-clause-answer g c) (returns-clause-holds g c)
