use Rattle.outputs.proofs.Puts.{puts_then}
use Rattle.pairing.proofs.listing.Ended.put_line.Goals as goal

pub returns-clause-puts : goal.returns-clause-puts
returns-clause-puts g c = puts_then c.put_decimal.ensures.puts (puts_then c.put.ensures.puts (puts_then c.put_standing.ensures.puts c.put-2.ensures.puts))
