use Rattle.std.proofs.Common.{ℕ, ◌∙◌, ap, eqb, drop, rules, tests}
use Rattle.std.specs.Option.{option_map, unwrap_or}
use Rattle.std.proofs.lemmas.Iterator.Search.{find_from_yields_List}
use Rattle.std.proofs.lemmas.Iterator.Consumers.{YieldsList-from_first}
use Rattle.sources.specs.Meaning.{row_of}
use Rattle.rows.proofs.Entries.{worth_found, worth_or_zero}
use Rattle.rows.proofs.worth_of.Goals as goal

pub returns : goal.returns
returns g c =
    let found = find_from_yields_List (λ (e : ℕ × ℕ). eqb e.0 c.args.job) c.find.new.self _ c.find.result c.find.ensures.ran
    (YieldsList-from_first (λ x. x) (λ s. drop s.places.start (row_of (g.S.Source.meaning s.source.now) s.carrier)) {s = c.entries.result} _ c.entries.ensures)
    (λ x b q k. search (rules, tests)) in
    worth_or_zero c.find.result c.map_or.result c.map_or.ensures (λ x k. search (rules, tests))
    ∙ ap (λ o. unwrap_or (option_map (λ (e : ℕ × ℕ). e.1) o) 0) found ∙ worth_found (row_of (g.S.Source.meaning c.args.source.now) c.args.carrier) c.args.job
