-- An entry that is there has a known job and a worth under the ceiling.
use Rattle.std.proofs.Common.{◌≡◌, ℕ, ◌+◌, ◌-◌, ◌<◌, ◌≤◌, length, get_or, take, drop, ap, ◌∙◌, subst, arith, rules, refl, fold, inl, inr, ⊎_elim}
use Rattle.std.proofs.ByRecursion.{All-get_or}
use Rattle.std.proofs.lemmas.List.{get_or-take}
use Rattle.sources.specs.Meaning.{row_of}
use Rattle.std.specs.Option.{unwrap_or}
use Rattle.sources.proofs.Reading.{entry_or, row_known, row_within, row_rising, rising_apart, row_length}
use Rattle.auction.specs.Bids.{new_bid, weighed}
use Rattle.hall.specs.Seeing.{bid_in}
use Rattle.hall.proofs.Entries.{weighed_cut}
use Rattle.hall.proofs.Seeing.{look_merged, seen_more}
use Rattle.hall.proofs.books.calls.look_closely.Goals as goal

pub offset_bounds-prices-job : goal.offset_bounds-prices-job
offset_bounds-prices-job g c =
    let m = g.S.Source.meaning c.args.source.now in
    let e = (c.unwrap_or-job.ensures ∙ ap (λ o. unwrap_or o (0, 0)) c.entry.ensures ∙ entry_or (g.S.Source.meaning c.args.source.now) c.args.carrier c.loop-place.place) in
    let k : (get_or (row_of m c.args.carrier) c.loop-place.place (0, 0)).0 < m.jobs = All-get_or (λ e. e.0 < m.jobs) (row_of m c.args.carrier) c.loop-place.place (0, 0) (omega arith) (row_known m (g.S.Source.sound c.args.source.now) c.args.carrier) in
    let j = ap (λ x. x.0) e in
    let n : c.unwrap_or-job.result.0 < 256 = omega (arith, k, j, c.requires.few_jobs) in
    search rules

pub bounds-prices-job : goal.bounds-prices-job
bounds-prices-job g c =
    let m = g.S.Source.meaning c.args.source.now in
    let e = (c.unwrap_or-job.ensures ∙ ap (λ o. unwrap_or o (0, 0)) c.entry.ensures ∙ entry_or (g.S.Source.meaning c.args.source.now) c.args.carrier c.loop-place.place) in
    let k = All-get_or (λ e. e.0 < m.jobs) (row_of m c.args.carrier) c.loop-place.place (0, 0) (omega arith) (row_known m (g.S.Source.sound c.args.source.now) c.args.carrier) in
    let j = ap (λ x. x.0) e in
    omega (arith, k, j, c.requires.few_jobs)

pub and-seen-requires-clause-low_worth : goal.and-seen-requires-clause-low_worth
and-seen-requires-clause-low_worth g c =
    let m = g.S.Source.meaning c.args.source.now in
    let sound = g.S.Source.sound c.args.source.now in
    let k = All-get_or (λ e. e.1 ≤ m.ceiling) (row_of m c.args.carrier) c.loop-place.place (0, 0) (omega arith) (row_within m sound c.args.carrier) in
    omega (arith, k, ap (λ x. x.1) (c.unwrap_or-job.ensures ∙ ap (λ o. unwrap_or o (0, 0)) c.entry.ensures ∙ entry_or (g.S.Source.meaning c.args.source.now) c.args.carrier c.loop-place.place), sound.small)

pub and-seen-requires-clause-low_price : goal.and-seen-requires-clause-low_price
and-seen-requires-clause-low_price g c =
    let m = g.S.Source.meaning c.args.source.now in
    let sound = g.S.Source.sound c.args.source.now in
    let k = All-get_or (λ e. e.0 < m.jobs) (row_of m c.args.carrier) c.loop-place.place (0, 0) (omega arith) (row_known m sound c.args.carrier) in
    let job = c.unwrap_or-job.result.0 in
    let known : c.unwrap_or-job.result.0 < m.jobs = omega (arith, k, ap (λ x. x.0) (c.unwrap_or-job.ensures ∙ ap (λ o. unwrap_or o (0, 0)) c.entry.ensures ∙ entry_or (g.S.Source.meaning c.args.source.now) c.args.carrier c.loop-place.place)) in
    omega (arith, get_or-take m.jobs c.args.prices.now job 0 known, c.requires.low_prices job)

pub and-seen-requires-clause-rises : goal.and-seen-requires-clause-rises
and-seen-requires-clause-rises g c =
    let e = (c.unwrap_or-job.ensures ∙ ap (λ o. unwrap_or o (0, 0)) c.entry.ensures ∙ entry_or (g.S.Source.meaning c.args.source.now) c.args.carrier c.loop-place.place) in
    ⊎_elim (λ z. inl z) (λ q. inr (omega (arith, q, ap (λ x. x.0) e))) (c.loop-place.invariant.rises c.loop-place.place (omega arith) (omega arith))

pub loop-place-preserved : goal.loop-place-preserved
loop-place-preserved g c =
    let m = g.S.Source.meaning c.args.source.now in
    let sound = g.S.Source.sound c.args.source.now in
    let row = row_of m c.args.carrier in
    let prices = c.args.prices.now in
    let ps = take m.jobs prices in
    let place = c.loop-place.place in
    let from = c.args.bid.now.looked in
    let s = c.loop-place.seen in
    let e = c.unwrap_or-job.result in
    let inside : c.loop-place.place < length (row_of m c.args.carrier) = omega arith in
    let k = All-get_or (λ e. e.0 < m.jobs) row place (0, 0) inside (row_known m sound c.args.carrier) in
    let known : c.unwrap_or-job.result.0 < m.jobs = omega (arith, k, ap (λ x. x.0) (c.unwrap_or-job.ensures ∙ ap (λ o. unwrap_or o (0, 0)) c.entry.ensures ∙ entry_or (g.S.Source.meaning c.args.source.now) c.args.carrier c.loop-place.place)) in
    let before : ℕ = place - from in
    let next : (c.loop-place.place - c.args.bid.now.looked) + 1 ≡ c.loop-place.place + 1 - c.args.bid.now.looked = omega arith in
    let so_far = bid_in (place - from) s.net s.job s.worth s.runner_up in
    let step = c.and-seen.ensures.seen (place - from) ∙ weighed_cut m.jobs prices so_far e.0 e.1 known in
    let more = step ∙ seen_more ps row from place (place - from) so_far e (omega arith) refl inside (c.unwrap_or-job.ensures ∙ ap (λ o. unwrap_or o (0, 0)) c.entry.ensures ∙ entry_or (g.S.Source.meaning c.args.source.now) c.args.carrier c.loop-place.place) c.loop-place.invariant.folded in
    record {
      folded = let r = c.and-seen.result in
          subst (λ n. bid_in n r.net r.job r.worth r.runner_up ≡ fold (weighed ps) new_bid (take n (drop from row))) next more;
      rises = λ n l i.
          let apart = rising_apart 0 row (row_rising m sound c.args.carrier) place n (omega arith) i in
          c.and-seen.ensures.rises (get_or row n (0, 0)).0 (omega (arith, apart, ap (λ x. x.0) (c.unwrap_or-job.ensures ∙ ap (λ o. unwrap_or o (0, 0)) c.entry.ensures ∙ entry_or (g.S.Source.meaning c.args.source.now) c.args.carrier c.loop-place.place)));
    }

pub returns : goal.returns
returns g c =
    let m = g.S.Source.meaning c.args.source.now in
    let s = c.loop-place.seen in
    let count : c.loop-place.place - c.args.bid.now.looked ≡ c.args.count = omega arith in
    let seen = subst (λ n. bid_in n s.net s.job s.worth s.runner_up ≡ fold (weighed (take m.jobs c.args.prices.now)) new_bid (take n (drop c.args.bid.now.looked (row_of m c.args.carrier)))) count c.loop-place.invariant.folded in
    c.merged.ensures ∙ look_merged c.args.count c.args.count (take m.jobs c.args.prices.now) (row_of m c.args.carrier) c.args.bid.now _ (omega arith) seen

pub overflow_add-place-end : goal.overflow_add-place-end
overflow_add-place-end g c =
    let m = g.S.Source.meaning c.args.source.now in
    omega (arith, c.requires.inside, row_length m (g.S.Source.sound c.args.source.now) c.args.carrier, c.requires.few_jobs)
