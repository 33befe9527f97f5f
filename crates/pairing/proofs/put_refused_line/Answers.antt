use Rattle.std.proofs.Common.{◌≤◌, ◌++◌, length, decimal, ap, subst, arith}
use Rattle.std.proofs.lemmas.List.{length-append}
use Rattle.refusals.specs.Numbering.{number_of}
use Rattle.outputs.proofs.Puts.{puts_same, puts_then}
use Rattle.pairing.specs.Listing.{newline}
use Rattle.pairing.proofs.put_refused_line.Goals as goal

pub returns : goal.returns
returns c = record {
  puts = puts_then c.put.ensures.puts (puts_same (ap (λ k. decimal k ++ newline) c.number.ensures.value) (puts_then c.put_decimal.ensures.puts c.put-2.ensures.puts));
  short = omega (arith, length-append (decimal (number_of c.args.refusal)) newline, subst (λ k. length (decimal k) ≤ 3) c.number.ensures.value c.put_decimal.ensures.short);
}
