use Rattle.std.proofs.Common.{◌*◌, ◌≤◌, length, take}
use Rattle.outputs.specs.Puts.{Puts}
use Rattle.pairing.specs.Listing.{carrier_lines}
use Rattle.pairing.proofs.listing.Ended.put_lines.Given as goal

-- the lines of so many carriers are put
abbrev pub invariant-loop-carrier : goal.invariant-loop-carrier
invariant-loop-carrier g l = record {
  puts : Puts l.initial.output l.output (carrier_lines (g.S.Source.meaning l.self.source.now) 0 (take l.carrier l.self.standings.now));
  short : length (carrier_lines (g.S.Source.meaning l.self.source.now) 0 (take l.carrier l.self.standings.now)) ≤ 64 * l.carrier;
}
