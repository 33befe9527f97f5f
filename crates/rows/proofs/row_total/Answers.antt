use Rattle.std.proofs.Common.{ℕ, Some, length, drop, sym, ap, ◌∙◌, arith, rules, tests, mul-le-mul_left}
use Rattle.std.specs.Option.{option_map}
use Rattle.std.proofs.ByRecursion.{sum_by_le}
use Rattle.std.proofs.lemmas.Iterator.{YieldsList-from_map}
use Rattle.std.proofs.lemmas.Iterator.Consumers.{YieldsList-at, YieldsList-from_first, sum_by_from_yields_List, fits_by_from_yields_list}
use Rattle.sources.specs.Meaning.{row_of}
use Rattle.sources.proofs.Reading.{row_there, row_len_some, row_within}
use Rattle.rows.specs.Totals.{worths}
use Rattle.rows.proofs.row_total.Goals as goal

pub sum-total-requires-clause-fits : goal.sum-total-requires-clause-fits
sum-total-requires-clause-fits g c =
    let m = g.S.Source.meaning c.args.source.now in
    let sound = g.S.Source.sound c.args.source.now in
    let i = c.args.carrier in
    fits_by_from_yields_list (λ (e : ℕ × ℕ). e.1) (row_of m i) c.map.result _
    (YieldsList-from_map _ (λ (e : ℕ × ℕ). e.1)
    (YieldsList-at c.map.ensures.source
    (YieldsList-from_first (λ x. x) (λ s. drop s.places.start (row_of (g.S.Source.meaning s.source.now) s.carrier)) {s = c.entries.result} _ c.entries.ensures))
    c.map.ensures.closure (λ x r q k. search (rules, tests)))
    (omega (arith, sum_by_le (λ (e : ℕ × ℕ). e.1) m.ceiling (row_of m i) (row_within m sound i), mul-le-mul_left (length (row_of m i)) sound.small, row_len_some m i c.in_ok-row_len.field-0 c.in_ok-row_len.ensures))

pub returns : goal.returns
returns g c =
    let m = g.S.Source.meaning c.args.source.now in
    let i = c.args.carrier in
    let total = sum_by_from_yields_List (λ (e : ℕ × ℕ). e.1) (row_of m i) c.map.result c.sum-total.result c.sum-total.ensures.ran
    (YieldsList-from_map _ (λ (e : ℕ × ℕ). e.1)
    (YieldsList-at c.map.ensures.source
    (YieldsList-from_first (λ x. x) (λ s. drop s.places.start (row_of (g.S.Source.meaning s.source.now) s.carrier)) {s = c.entries.result} _ c.entries.ensures))
    c.map.ensures.closure (λ x r q k. search (rules, tests))) in
    ap Some total ∙ sym (ap (option_map worths) (row_there m i c.in_ok-row_len.field-0 c.in_ok-row_len.ensures))
