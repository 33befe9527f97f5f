use Rattle.std.proofs.Common.{◌≡◌, ◌-◌}
use Rattle.auction.specs.Runs.{many_steps}
use Rattle.auction.specs.InOrder.{Ordered}
use Rattle.hall.specs.InBooks.{NotedOf}
use Rattle.hall.specs.RunSteps.{state_of}
use Rattle.hall.proofs.books.Books.make_steps.Given as goal

-- What is left of the budget makes of the state now what all of it makes of the state at the start.
abbrev pub invariant-loop-made : goal.invariant-loop-made
invariant-loop-made g l =
    record {
      noted : NotedOf (g.S.Source.meaning l.source) l.self;
      ordered : Ordered (g.S.Source.meaning l.source) (state_of l.self l.queues 0);
      left : many_steps (g.S.Source.meaning l.source) l.depth (l.budget - l.made) (state_of l.self l.queues l.made)
          ≡ many_steps (g.S.Source.meaning l.source) l.depth l.budget (state_of l.initial.self l.initial.queues 0);
    }
