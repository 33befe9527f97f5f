use Rattle.std.proofs.Common.{◌≡◌, ℕ, ◌<◌, ◌≤◌, [], false, if◌then◌else◌, slice_index_or}
use Rattle.grids.specs.Worths.{grid_worth}
use Rattle.grids.proofs.Grid.only.Given as goal

abbrev pub invariant-loop-carrier : goal.invariant-loop-carrier
invariant-loop-carrier l = record {
  done : (i j : ℕ) → i < l.carrier → grid_worth l.row-items i j ≡ (if slice_index_or l.carriers i false then grid_worth l.initial.row-items i j else 0);
  left : (i : ℕ) → l.carrier ≤ i → slice_index_or l.row-items i [] ≡ slice_index_or l.initial.row-items i [];
}
