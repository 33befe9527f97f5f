use Rattle.std.proofs.Common.{length}
use Rattle.grids.proofs.+pairing_worth.Given as goal

abbrev pub decreases-pairing_worth : goal.decreases-pairing_worth
decreases-pairing_worth l = length l.rows.now
