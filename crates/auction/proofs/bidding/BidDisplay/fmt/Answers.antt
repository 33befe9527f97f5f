use Rattle.std.proofs.Common.{◌++◌, codes, decimal, sym, subst}
use Rattle.std.specs.Fmt.{HasWritten}
use Rattle.auction.specs.Shown.{found_text}
use Rattle.auction.proofs.bidding.BidDisplay.fmt.Goals as goal

pub returns-in-None-clause-writes : goal.returns-in-None-clause-writes
returns-in-None-clause-writes g c =
    λ p o. subst (λ b. HasWritten g.W.Write.write_str_gives c.args.f.now (decimal c.args.self.now.looked ++ (codes " looked at, " ++ found_text b c.args.self.now.runner_up)) c.write.new.self) (sym c.in-None.is) (c.write.ensures.writes p o)

pub returns-in-Some-clause-writes : goal.returns-in-Some-clause-writes
returns-in-Some-clause-writes g c =
    λ p o. subst (λ b. HasWritten g.W.Write.write_str_gives c.args.f.now (decimal c.args.self.now.looked ++ (codes " looked at, " ++ found_text b c.args.self.now.runner_up)) c.write-in-Some.new.self) (sym c.in-Some.is) (c.write-in-Some.ensures.writes p o)
