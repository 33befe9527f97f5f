use Rattle.std.proofs.Common.{◌≡◌, ◌∷◌, length, Ok, Err, refl, ap, ◌∙◌}
use Rattle.refusals.specs.declared.Refusal.TheVariants.{NumberCut}
use Rattle.refusals.specs.Faults.{fault_at}
use Rattle.numbers.specs.Groups.{groups, encoded, before, decoded_in}
use Rattle.sources.specs.Tables.{heading_of}
use Rattle.sheetfile.specs.Reading.{entries_from, loaded, row_from, rows_from}
use Rattle.sheetfile.specs.Tables.{heading_answer}
use Rattle.worked.specs.Sheets.{WorkedSheet, behind_first, three_by_three}
use Rattle.worked.proofs.sheet_cases.Goals as goal

worked : WorkedSheet
unfolding groups encoded before decoded_in entries_from row_from rows_from loaded
worked = record { file = refl; loads = refl; one_carrier_more = refl }

more-starts : loaded (3 ∷ behind_first) 5 9 ≡ Ok three_by_three
unfolding before decoded_in entries_from row_from rows_from loaded
more-starts = refl

pub returns : goal.returns
returns c =
    let a : c.load-whole.result ≡ Ok (heading_of three_by_three) = c.load-whole.ensures.answer ∙ ap heading_answer more-starts in
    let b : c.load-one_carrier_more.result ≡ Err (fault_at NumberCut 25) =
    c.load-one_carrier_more.ensures.answer ∙ ap (λ n. heading_answer (loaded (4 ∷ behind_first) n (length c.load-whole.new.entries))) c.load-whole.auto.starts
    ∙ ap (λ n. heading_answer (loaded (4 ∷ behind_first) 5 n)) c.load-whole.auto.entries ∙ ap heading_answer worked.one_carrier_more in
    record {
      value = ap (λ r. record { whole = r; one_carrier_more = c.load-one_carrier_more.result }) a
          ∙ ap (λ r. record { whole = Ok (heading_of three_by_three); one_carrier_more = r }) b;
      worked = worked;
    }
