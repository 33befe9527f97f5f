use Rattle.numbers.proofs.Groups.{len_by_bits, sized}
use Rattle.numbers.proofs.number_len.Goals as goal

pub returns : goal.returns
returns c = record {
  value = len_by_bits c.ilog2.result c.args.n c.max.result c.max.ensures c.ilog2.ensures.power_le c.ilog2.ensures.next_power_gt;
  sized = sized c.args.n;
}
