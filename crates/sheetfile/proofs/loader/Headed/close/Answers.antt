use Rattle.std.proofs.Common.{rules}
use Rattle.sheetfile.proofs.Exactly.{closes_exactly}
use Rattle.sheetfile.proofs.loader.Headed.close.Goals as goal

pub returns-then-self-clause-exact : goal.returns-then-self-clause-exact
returns-then-self-clause-exact c = closes_exactly c.args.self _ (search rules)

pub returns-in-Err-clause-exact : goal.returns-in-Err-clause-exact
returns-in-Err-clause-exact c = closes_exactly c.args.self _ (search rules)

pub returns-in-Ok-clause-exact : goal.returns-in-Ok-clause-exact
returns-in-Ok-clause-exact c = closes_exactly c.args.self _ (search rules)
