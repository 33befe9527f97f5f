use Rattle.std.proofs.Common.{◌≡◌, ◌-◌, min, length, take, drop, fold, refl, ap, ◌∙◌, arith}
use Rattle.std.specs.Option.{unwrap_or}
use Rattle.sources.specs.Meaning.{row_of}
use Rattle.sources.proofs.Reading.{entry_or, row_len_or_zero}
use Rattle.sources.proofs.Visiting.{cut, shown_more}
use Rattle.sources.proofs.showing.show_asked.Goals as goal

pub loop-index-preserved : goal.loop-index-preserved
loop-index-preserved g c =
    let m = g.S.Source.meaning c.args.source.now in
    let row = row_of m c.args.carrier in
    let len : c.unwrap_or.result ≡ length (row_of m c.args.carrier) = c.unwrap_or.ensures ∙ ap (λ o. unwrap_or o 0) c.row_len.ensures ∙ row_len_or_zero m c.args.carrier in
    let e = c.unwrap_or-entry.ensures ∙ ap (λ o. unwrap_or o (0, 0)) c.entry.ensures ∙ entry_or m c.args.carrier c.loop-index.index in
    record {
      shown = c.see-visitor.ensures ∙ (λ i. g.V.Visitor.shown (c.loop-index.invariant.shown i) (e i))
          ∙ shown_more g.V.Visitor.shown c.args.visitor row c.part_of-part.result.start c.loop-index.index _ (0, 0) (omega arith) (omega (arith, len, c.part_of-part.ensures.start, c.part_of-part.ensures.end)) refl;
    }

pub returns : goal.returns
returns g c =
    let m = g.S.Source.meaning c.args.source.now in
    let row = row_of m c.args.carrier in
    let len : c.unwrap_or.result ≡ length (row_of m c.args.carrier) = c.unwrap_or.ensures ∙ ap (λ o. unwrap_or o 0) c.row_len.ensures ∙ row_len_or_zero m c.args.carrier in
    let n : c.loop-index.index - c.part_of-part.result.start ≡ min c.args.count (length (row_of m c.args.carrier) - c.part_of-part.result.start) = omega (arith, len, c.part_of-part.ensures.start, c.part_of-part.ensures.end) in
    c.loop-index.invariant.shown
    ∙ ap (λ k. fold g.V.Visitor.shown c.args.visitor (take k (drop c.part_of-part.result.start row))) n
    ∙ ap (fold g.V.Visitor.shown c.args.visitor) (cut row c.args.from c.args.count c.part_of-part.result.start (c.part_of-part.ensures.start ∙ ap (min c.args.from) len))
