use Rattle.std.proofs.Common.{◌≡◌, max, eqb, false, SFits, w64, to_z, of_z, ap, ◌∙◌, rules, arith}
use Rattle.std.specs.Int.{int_max, int_min}
use borrow.Author.Differences.{ints}
use Rattle.std.proofs.lemmas.Int.{clamps, to_z-of_z}
use Rattle.auction.specs.Bids.{beats, natural}
use Rattle.hall.proofs.Seeing.{best_of_both}
use Rattle.hall.proofs.ranking.merged.Goals as goal

pub returns : goal.returns
returns c =
    let s = c.args.seen in
    let old = c.in-Some.old in
    let f1 : SFits w64 c.args.seen.net = search rules in
    let f2 : SFits w64 c.in-Some.old.net = search rules in
    let some : eqb c.args.seen.worth 0 ≡ false = search rules in
    let z : to_z w64 (of_z w64 c.max.result) ≡ int_max c.in-Some.old.net c.args.seen.net = omega (arith, ints, clamps, c.max.ensures.value) in
    let k : to_z w64 (of_z w64 c.min.result) ≡ int_min c.in-Some.old.net c.args.seen.net = omega (arith, ints, clamps, c.min.ensures.value) in
    let f3 : SFits w64 c.args.seen.runner_up = search rules in
    let r : c.positive.result ≡ natural c.args.seen.runner_up = simp to_z-of_z at c.positive.ensures in
    let m : c.max-2.result ≡ max (max c.args.bid.runner_up (natural c.args.seen.runner_up)) (natural (int_min c.in-Some.old.net c.args.seen.net)) =
    c.max-2.ensures ∙ ap (λ x. max x c.positive-2.result) (c.max-runner_up.ensures ∙ ap (max c.args.bid.runner_up) r)
    ∙ ap (max (max c.args.bid.runner_up (natural c.args.seen.runner_up))) (c.positive-2.ensures ∙ ap natural k) in
    let b : c.is_better-is_best.result ≡ beats (record { net = c.args.seen.net; job = c.args.seen.job; worth = c.args.seen.worth }) c.in-Some.old = simp to_z-of_z at c.is_better-is_best.ensures in
    best_of_both c.args.bid c.args.entries s.net s.job s.worth s.runner_up old c.in-Some.is some c.is_better-is_best.result _ _ _ _ b z c.either.ensures c.either-2.ensures m
