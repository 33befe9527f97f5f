use Rattle.std.proofs.Common.{◌≡◌, ◌≤◌, ℕ, [], length, take, slice_index_or}
use Rattle.grids.specs.Drawn.{rows_drawn}
use Rattle.grids.specs.Worths.{RowWithin, grid_worth}
use Rattle.grids.proofs.Grid.draw.Given as goal

abbrev pub invariant-loop-carrier : goal.invariant-loop-carrier
invariant-loop-carrier l = record {
  long : length l.row-items ≡ 4;
  within : (i : ℕ) → RowWithin l.jobs l.ceiling (slice_index_or l.row-items i []);
  empty : (i j : ℕ) → l.carriers ≤ i → grid_worth l.row-items i j ≡ 0;
  rows : take l.carrier l.row-items ≡ (rows_drawn l.carrier l.carriers l.jobs l.ceiling l.initial.draw.state).0;
  state : l.draw.state ≡ (rows_drawn l.carrier l.carriers l.jobs l.ceiling l.initial.draw.state).1;
}
