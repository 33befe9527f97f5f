use Rattle.refusals.proofs.Numbering.{numbered}
use Rattle.refusals.proofs.Refusal.number.Goals as goal

pub returns-clause-numbering : goal.returns-clause-numbering
returns-clause-numbering c = numbered
