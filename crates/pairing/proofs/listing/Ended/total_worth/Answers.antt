use Rattle.std.proofs.Common.{◌+◌, length, ◌∙◌, refl, rules, tests}
use Rattle.std.proofs.lemmas.Iterator.{YieldsList-from_map, YieldsList-from_slice}
use Rattle.std.proofs.lemmas.Iterator.Consumers.{YieldsList-at, sum_by_from_yields_List}
use Rattle.pairing.specs.Held.{worth_told}
use Rattle.pairing.proofs.Lines.{along_all, told_is}
use Rattle.pairing.proofs.listing.Ended.total_worth.Goals as goal

pub returns : goal.returns
returns g c =
    let m = g.S.Source.meaning c.args.self.now.source.now in
    let ss = c.args.self.now.standings.now in
    let told = worth_told (length c.args.self.now.standings.now + 1) in
    sum_by_from_yields_List told ss c.map.result c.sum.result c.sum.ensures.ran
    (YieldsList-from_map _ told
    (YieldsList-at c.map.ensures.source (YieldsList-from_slice ss c.iter.ensures.rest))
    c.map.ensures.closure (λ x r q k. search (rules, tests)))
    ∙ along_all told m.rows ss (λ k l. told_is m ss c.args.self.now.timed k _ refl)
