use Rattle.std.proofs.Common.{◌≡◌, leb, List, ◌++◌, length, replicate, is_ok, None, Ok, Option, Result, sym, ap, ◌∙◌, arith, rules}
use Rattle.std.proofs.lemmas.List.{append-nil, drop_all, length-replicate}
use Rattle.std.proofs.lemmas.Bool.{cond-true, le-leb}
use Rattle.refusals.specs.declared.Refusal.{Refusal}
use Rattle.sources.specs.Meaning.{Meaning}
use Rattle.sources.specs.Sheets.{sheet_of}
use Rattle.sources.specs.OfSheet.{sheet_meaning}
use Rattle.auction.specs.declared.calls.Call.{Call}
use Rattle.auction.specs.declared.calls.Answer.{Answer}
use Rattle.auction.specs.declared.calls.Answer.TheVariants.{Accepted}
use Rattle.auction.specs.Calls.{answers_from}
use Rattle.hall.specs.declared.books.Books.{Books}
use Rattle.hall.specs.Replayed.{Replayed}
use Rattle.worked.proofs.runs.play.Goals as goal

-- Answers that have no place behind them.
answers-are : (m m' : Meaning) (calls : List Call) (before after : List (Result Answer Refusal)) (b : Option Books) → m ≡ m' → length before ≡ length calls → Replayed m calls before after b → after ≡ answers_from m' None calls
answers-are m m' calls before after b e l r =
    r.answered ∙ ap (λ xs. answers_from m None calls ++ xs) (drop_all (length calls) before (omega (arith, l))) ∙ append-nil (answers_from m None calls)
    ∙ ap (λ z. answers_from z None calls) e

pub returns : goal.returns
returns g c =
    let before : List (Result Answer Refusal) = replicate g.row.N (Ok Accepted) in
    let sized : length before ≡ length c.args.calls = length-replicate g.row.N (Ok Accepted) ∙ sym (search rules) in
    let full = c.fill.ensures.verdict ∙ c.requires in
    let means : sheet_meaning c.fill.new.self ≡ sheet_of c.args.heading c.args.starts.now c.args.entries.now =
    c.fill.ensures.means ∙ cond-true (is_ok c.fill.result) _ _ (ap is_ok full) in
    let fits = c.replay.ensures.fits ∙ cond-true (leb (length c.args.calls) (length before)) _ _ (le-leb (length c.args.calls) (length before) (omega (arith, sized))) in
    answers-are _ _ c.args.calls before c.replay.new.answers _ means sized (c.replay.ensures.replayed (ap is_ok fits))
