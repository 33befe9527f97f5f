use Rattle.std.proofs.Common.{Ok}
use Rattle.numbers.proofs.Exact.{exactly}
use Rattle.numbers.proofs.read_number.Goals as goal

pub returns-in-Some-clause-exact : goal.returns-in-Some-clause-exact
returns-in-Some-clause-exact c = exactly c.args.bytes.now c.args.at (Ok c.in-Some.read) c.type_inv.bytes (c.read_few.ensures c.in-Some.read c.in-Some.is)
