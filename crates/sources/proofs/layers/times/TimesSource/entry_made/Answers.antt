use Rattle.std.proofs.Common.{◌≡◌, ◌*◌, ◌%◌, ◌^◌, ◌<◌, ◌≤◌, get_or, sym, ap, ◌∙◌, arith}
use Rattle.sources.specs.Meaning.{row_of}
use Rattle.sources.specs.Layers.{scaled}
use Rattle.sources.proofs.Reading.{all_at, row_within}
use Rattle.sources.proofs.Visiting.{entry_revalued, small_product}
use Rattle.sources.proofs.layers.times.TimesSource.entry_made.Goals as goal

pub returns-then-quick : goal.returns-then-quick
returns-then-quick g c based =
    let s = c.args.self.now in
    let m = g.S.Source.meaning s.below in
    let row = row_of m c.args.carrier in
    let e = get_or row c.args.index (0, 0) in
    let within : e.1 ≤ m.ceiling = all_at (λ e. e.1 ≤ m.ceiling) (0, 0) (omega arith) row c.args.index (row_within m (g.S.Source.sound s.below) c.args.carrier) in
    let low : e.1 < 2 ^ 28 = omega (arith, within, based.1 c.if-quick.true) in
    let product : (c.wide.result * e.1) % 2 ^ 64 ≡ scaled s.factor e.1 =
    small_product c.wide.result e.1 c.wide.ensures.low low ∙ ap (λ n. scaled n e.1) c.wide.ensures.value in
    ap (λ p. (p.0, (c.wide.result * p.1) % 2 ^ 64)) (c.entry_made-job.ensures based.0)
    ∙ ap (λ w. (e.0, w)) product
    ∙ sym (entry_revalued (scaled s.factor) (omega arith) (scaled s.factor m.ceiling) m c.args.carrier c.args.index)
