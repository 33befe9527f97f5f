use Rattle.std.proofs.Common.{get_or, take, sym, arith}
use Rattle.std.proofs.lemmas.List.{length-append}
use Rattle.outputs.proofs.Puts.{puts_same, puts_then}
use Rattle.auction.specs.declared.bidding.Standing.TheVariants.{Waiting}
use Rattle.pairing.specs.Listing.{carrier_line, carrier_lines}
use Rattle.pairing.proofs.Lines.{lines_more}
use Rattle.pairing.proofs.listing.Ended.put_lines.Goals as goal

pub loop-carrier-preserved : goal.loop-carrier-preserved
loop-carrier-preserved g c =
    let m = g.S.Source.meaning c.args.self.now.source.now in
    let ss = c.args.self.now.standings.now in
    let i = c.loop-carrier.carrier in
    let more = lines_more m ss i Waiting c.loop-carrier-test.true in
    let before = carrier_lines m 0 (take i ss) in
    let line = carrier_line m i (get_or ss i Waiting) in
    record {
      puts = puts_same more (puts_then c.loop-carrier.invariant.puts c.put_line.ensures.puts);
      short = rw (sym more) (omega (arith, length-append before line, c.loop-carrier.invariant.short, c.put_line.ensures.short));
    }
