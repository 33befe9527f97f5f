use Rattle.std.proofs.Common.{◌≡◌, ◌+◌, cond, SFits, w64, to_z, of_z, refl, sym, ◌∙◌, rules, arith, inl, inr, ⊎_elim}
use lib.Signed.{◌≤ℤ◌, lt_z}
use Rattle.std.specs.Int.{int_max, int_min}
use borrow.Author.Differences.{ints}
use Rattle.std.proofs.lemmas.Int.{clamps, to_z-of_z}
use Rattle.hall.specs.Seeing.{least, bid_in}
use Rattle.hall.proofs.Seeing.{seen_step, still_none, still_rises}
use Rattle.hall.proofs.ranking.Ranked.and.Goals as goal

pub returns-clause-seen : goal.returns-clause-seen
returns-clause-seen c n =
    let s = c.args.self in
    let net = c.net_at-net.result in
    let f1 : SFits w64 c.args.self.net = search rules in
    let f2 : SFits w64 c.args.self.runner_up = search rules in
    let f3 : SFits w64 c.net_at-net.result = search rules in
    let m : to_z w64 (of_z w64 c.max.result) ≡ int_max c.args.self.net c.net_at-net.result = omega (arith, ints, clamps, c.max.ensures.value) in
    let k : to_z w64 (of_z w64 c.max-2.result) ≡ int_max c.args.self.runner_up (int_min c.args.self.net c.net_at-net.result) = omega (arith, ints, clamps, c.max-2.ensures.value, c.min.ensures.value) in
    let low : least ≤ℤ c.args.self.net = omega (arith, ints) in
    let low_r : least ≤ℤ c.args.self.runner_up = omega (arith, ints) in
    let j : c.either.result ≡ cond (lt_z c.args.self.net c.net_at-net.result) c.args.job c.args.self.job = simp to_z-of_z at c.either.ensures in
    let w : c.either-2.result ≡ cond (lt_z c.args.self.net c.net_at-net.result) c.args.worth c.args.self.worth = simp to_z-of_z at c.either-2.ensures in
    (λ i. bid_in (n + 1) (m i) (j i) (w i) (k i))
    ∙ seen_step c.args.price n c.args.job c.args.worth s.net s.job s.worth s.runner_up net c.requires.low_worth c.requires.low_price low low_r s.none c.requires.rises c.net_at-net.ensures (lt_z s.net net) refl

pub returns-clause-rises : goal.returns-clause-rises
returns-clause-rises c next l =
    let s = c.args.self in
    let net = c.net_at-net.result in
    let f1 : SFits w64 c.args.self.net = search rules in
    let f2 : SFits w64 c.args.self.runner_up = search rules in
    let f3 : SFits w64 c.net_at-net.result = search rules in
    let low : least ≤ℤ c.args.self.net = omega (arith, ints) in
    let low_r : least ≤ℤ c.args.self.runner_up = omega (arith, ints) in
    let j : c.either.result ≡ cond (lt_z c.args.self.net c.net_at-net.result) c.args.job c.args.self.job = simp to_z-of_z at c.either.ensures in
    let w : c.either-2.result ≡ cond (lt_z c.args.self.net c.net_at-net.result) c.args.worth c.args.self.worth = simp to_z-of_z at c.either-2.ensures in
    let t = still_rises c.args.price 0 c.args.job c.args.worth s.net s.job s.worth s.runner_up net c.requires.low_worth c.requires.low_price low low_r s.none c.requires.rises c.net_at-net.ensures (lt_z s.net net) next l in
    ⊎_elim (λ z. inl (w ∙ z)) (λ z. inr (omega (arith, j, z))) t

pub invariant_of-result : goal.invariant_of-result
invariant_of-result c = record {
  none = λ z.
      let s = c.args.self in
      let net = c.net_at-net.result in
      let f1 : SFits w64 c.args.self.net = search rules in
      let f2 : SFits w64 c.args.self.runner_up = search rules in
      let f3 : SFits w64 c.net_at-net.result = search rules in
      let m : to_z w64 (of_z w64 c.max.result) ≡ int_max c.args.self.net c.net_at-net.result = omega (arith, ints, clamps, c.max.ensures.value) in
      let low : least ≤ℤ c.args.self.net = omega (arith, ints) in
      let low_r : least ≤ℤ c.args.self.runner_up = omega (arith, ints) in
      let w : c.either-2.result ≡ cond (lt_z c.args.self.net c.net_at-net.result) c.args.worth c.args.self.worth = simp to_z-of_z at c.either-2.ensures in
      m ∙ still_none c.args.price 0 c.args.job c.args.worth s.net s.job s.worth s.runner_up net c.requires.low_worth c.requires.low_price low low_r s.none c.requires.rises c.net_at-net.ensures (lt_z s.net net) refl (sym w ∙ z);
}
