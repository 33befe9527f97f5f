use Rattle.std.proofs.Common.{◌≡◌, take}
use Rattle.grids.specs.Drawn.{places_drawn}
use Rattle.grids.specs.Worths.{RowWithin}
use Rattle.grids.proofs.draw_row.Given as goal

abbrev pub invariant-loop-job : goal.invariant-loop-job
invariant-loop-job l = record {
  within : RowWithin l.jobs l.ceiling l.worth-items;
  places : take l.job l.worth-items ≡ (places_drawn l.job l.jobs l.ceiling l.initial.draw.state).0;
  state : l.draw.state ≡ (places_drawn l.job l.jobs l.ceiling l.initial.draw.state).1;
}
