use Rattle.std.proofs.Common.{arith}
use Rattle.hall.proofs.Questions.{worth_bound}
use Rattle.hall.proofs.books.Books.worth.Goals as goal

pub total_worth-requires : goal.total_worth-requires
total_worth-requires c = omega (arith, worth_bound c.args.self.now c.args.self.now.noted.carriers (omega arith))
