use Rattle.std.proofs.Common.{ap}
use Rattle.outputs.proofs.Puts.{puts_same, puts_then}
use Rattle.pairing.specs.Listing.{last_line}
use Rattle.pairing.proofs.listing.Ended.put_last.Goals as goal

pub returns-clause-puts : goal.returns-clause-puts
returns-clause-puts g c =
    puts_same (ap (λ w. last_line w c.args.self.now.counts) c.total_worth.ensures)
    (puts_then c.put.ensures.puts (puts_then c.put_decimal.ensures.puts (puts_then c.put-2.ensures.puts (puts_then c.put_decimal-2.ensures.puts (puts_then c.put-3.ensures.puts (puts_then c.put_decimal-3.ensures.puts c.put-4.ensures.puts))))))
