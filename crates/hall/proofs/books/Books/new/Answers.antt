use Rattle.hall.proofs.Tables.{all_zero, at_start_is, at_start_keeps}
use Rattle.hall.proofs.books.Books.new.Goals as goal

pub invariant_of-result : goal.invariant_of-result
invariant_of-result c =
    let z = c.default.ensures in
    record { sound = ∣ at_start_keeps c.args.heading _ _ c.requires c.default.result (all_zero c.default.result z.0 z.1.0 z.1.1.0 z.1.1.1) ∣₁ }

pub returns-clause-tallied : goal.returns-clause-tallied
returns-clause-tallied c =
    let z = c.default.ensures in
    at_start_is c.args.heading _ _ c.requires c.default.result (all_zero c.default.result z.0 z.1.0 z.1.1.0 z.1.1.1)
