use Rattle.std.proofs.Common.{◌≡◌, ◌+◌, ◌-◌, ◌≤◌, ◌^◌, min, length, take, Some, Option, sym, refl, ap, ◌∙◌, subst, arith}
use borrow.Author.Differences.{ints}
use Rattle.std.proofs.lemmas.Bool.{ltb-true, ltb-false}
use Rattle.sources.specs.Meaning.{row_of}
use Rattle.sources.proofs.Reading.{entry_or}
use Rattle.auction.specs.declared.bidding.Best.{Best}
use Rattle.auction.specs.declared.bidding.Bid.{Bid}
use Rattle.auction.specs.Bids.{natural}
use Rattle.hall.specs.Glances.{price_held}
use Rattle.hall.proofs.Glances.{glance_fits, looked_after, looked_count, still_best}
use Rattle.hall.proofs.books.calls.look_on.Goals as goal

pub best-requires-clause-some : goal.best-requires-clause-some
best-requires-clause-some g c =
    let m = g.S.Source.meaning c.args.source.now in
    let e = c.new.ensures in
    let f = (glance_fits m (g.S.Source.sound c.args.source.now) c.requires.few_jobs c.args.prices.now c.requires.low_prices c.args.carrier c.min-count.result c.args.bid.now
    c.new.result e.prices e.net e.job e.runner_up c.visit-glance.result c.visit-glance.ensures).1 in
    let q = f.found (ltb-true c.visit-glance.result.job 256 (sym c.found.ensures ∙ c.if-found.true)) in
    omega (arith, ap natural f.net, q.some)

pub best-requires-clause-low : goal.best-requires-clause-low
best-requires-clause-low g c =
    let m = g.S.Source.meaning c.args.source.now in
    let e = c.new.ensures in
    let f = (glance_fits m (g.S.Source.sound c.args.source.now) c.requires.few_jobs c.args.prices.now c.requires.low_prices c.args.carrier c.min-count.result c.args.bid.now
    c.new.result e.prices e.net e.job e.runner_up c.visit-glance.result c.visit-glance.ensures).1 in
    let q = f.found (ltb-true c.visit-glance.result.job 256 (sym c.found.ensures ∙ c.if-found.true)) in
    let z = c.visit-glance.result in
    subst (λ ps. natural z.net + price_held ps z.job ≤ 2 ^ 60) (sym f.held) q.light

pub runner_up-requires : goal.runner_up-requires
runner_up-requires g c =
    let m = g.S.Source.meaning c.args.source.now in
    let e = c.new.ensures in
    let f = (glance_fits m (g.S.Source.sound c.args.source.now) c.requires.few_jobs c.args.prices.now c.requires.low_prices c.args.carrier c.min-count.result c.args.bid.now
    c.new.result e.prices e.net e.job e.runner_up c.visit-glance.result c.visit-glance.ensures).1 in
    omega (arith, ints, f.runner)

pub runner_up-bid-requires : goal.runner_up-bid-requires
runner_up-bid-requires g c =
    let m = g.S.Source.meaning c.args.source.now in
    let e = c.new.ensures in
    let f = (glance_fits m (g.S.Source.sound c.args.source.now) c.requires.few_jobs c.args.prices.now c.requires.low_prices c.args.carrier c.min-count.result c.args.bid.now
    c.new.result e.prices e.net e.job e.runner_up c.visit-glance.result c.visit-glance.ensures).1 in
    omega (arith, ints, f.runner)

pub returns-then-found : goal.returns-then-found
returns-then-found g c =
    let m = g.S.Source.meaning c.args.source.now in
    let e = c.new.ensures in
    let bid = c.args.bid.now in
    let count = c.min-count.result in
    let f = (glance_fits m (g.S.Source.sound c.args.source.now) c.requires.few_jobs c.args.prices.now c.requires.low_prices c.args.carrier c.min-count.result c.args.bid.now
    c.new.result e.prices e.net e.job e.runner_up c.visit-glance.result c.visit-glance.ensures).1 in
    let q = f.found (ltb-true c.visit-glance.result.job 256 (sym c.found.ensures ∙ c.if-found.true)) in
    let z = c.visit-glance.result in
    let b = c.best.ensures in
    let n : c.min-count.result ≡ min c.args.lanes (length (row_of m c.args.carrier) - c.args.bid.now.looked) = omega (arith, c.min-count.ensures, c.requires.long) in
    let looked = looked_after m (g.S.Source.sound c.args.source.now) c.requires.few_jobs c.args.prices.now c.requires.low_prices c.args.carrier c.min-count.result c.args.bid.now
    c.new.result e.prices e.net e.job e.runner_up (omega (arith, n)) in
    let worth = b.worth ∙ ap (λ ps. natural z.net + price_held ps z.job) f.held in
    let best : ◌≡◌ {A = Option Best} (Some c.best.result) _ = (λ i. Some (record { net = b.net i; job = b.job i; worth = worth i })) ∙ sym q.best in
    let runner = c.runner_up.ensures ∙ ap natural f.runner in
    ◌∙◌ {A = Bid} (λ i. record { looked = sym looked i; best = best i; runner_up = runner i }) (looked_count c.args.lanes count (take m.jobs c.args.prices.now) (row_of m c.args.carrier) bid n)

pub returns-then-best_lasts : goal.returns-then-best_lasts
returns-then-best_lasts g c =
    let m = g.S.Source.meaning c.args.source.now in
    let e = c.new.ensures in
    let f = (glance_fits m (g.S.Source.sound c.args.source.now) c.requires.few_jobs c.args.prices.now c.requires.low_prices c.args.carrier c.min-count.result c.args.bid.now
    c.new.result e.prices e.net e.job e.runner_up c.visit-glance.result c.visit-glance.ensures).1 in
    let bid = c.args.bid.now in
    let count = c.min-count.result in
    let n : c.min-count.result ≡ min c.args.lanes (length (row_of m c.args.carrier) - c.args.bid.now.looked) = omega (arith, c.min-count.ensures, c.requires.long) in
    let looked = looked_after m (g.S.Source.sound c.args.source.now) c.requires.few_jobs c.args.prices.now c.requires.low_prices c.args.carrier c.min-count.result c.args.bid.now
    c.new.result e.prices e.net e.job e.runner_up (omega (arith, n)) in
    let runner = c.runner_up-bid.ensures ∙ ap natural f.runner in
    let none = ltb-false c.visit-glance.result.job 256 (sym c.found.ensures ∙ c.if-found.false) in
    let best = sym (still_best _ _ _ _ _ _ _ _ _ f none (entry_or m c.args.carrier bid.looked) refl (sym c.best_lasts.ensures ∙ c.if-best_lasts.true)) in
    ◌∙◌ {A = Bid} (λ i. record { looked = sym looked i; best = best i; runner_up = runner i }) (looked_count c.args.lanes count (take m.jobs c.args.prices.now) (row_of m c.args.carrier) bid n)

pub returns-else-best_lasts : goal.returns-else-best_lasts
returns-else-best_lasts g c =
    let m = g.S.Source.meaning c.args.source.now in
    let n : c.min-count.result ≡ min c.args.lanes (length (row_of m c.args.carrier) - c.args.bid.now.looked) = omega (arith, c.min-count.ensures, c.requires.long) in
    c.look_closely.ensures ∙ looked_count c.args.lanes c.min-count.result (take m.jobs c.args.prices.now) (row_of m c.args.carrier) c.args.bid.now n
