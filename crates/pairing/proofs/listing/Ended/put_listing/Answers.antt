use Rattle.std.proofs.Common.{length, ap, arith}
use Rattle.std.proofs.lemmas.List.{length-append}
use Rattle.auction.specs.Standings.{job_served}
use Rattle.auction.specs.Laws.{worth}
use Rattle.outputs.proofs.Puts.{puts_then}
use Rattle.pairing.specs.Listing.{carrier_lines, last_line}
use Rattle.pairing.proofs.Texts.{puts_over}
use Rattle.pairing.proofs.listing.Ended.put_listing.Goals as goal
use Rattle.std.proofs.Common.{map}

pub returns-clause-written : goal.returns-clause-written
returns-clause-written g c room =
    let m = g.S.Source.meaning c.args.self.now.source.now in
    let ended = c.args.self.now in
    let all = puts_then c.put_lines.ensures.puts c.put_last.ensures.puts in
    let long = length-append (carrier_lines m 0 ended.standings.now) (last_line (worth m (map job_served ended.standings.now)) ended.counts) in
    let counted = all.counted (omega (arith, long, c.put_lines.ensures.short, c.put_last.ensures.short, ended.few, c.new-output.ensures.count)) in
    let there = puts_over all c.new-output.ensures.count (omega (arith, room, counted, c.len.ensures, c.new-output.ensures.count, ap length c.new-output.ensures.bytes)) in
    grind (arith, there)
