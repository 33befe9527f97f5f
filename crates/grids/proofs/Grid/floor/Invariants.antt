use Rattle.std.proofs.Common.{◌≡◌, ℕ, ◌<◌, ◌≤◌, [], map, slice_index_or}
use Rattle.grids.specs.Worths.{floored}
use Rattle.grids.proofs.Grid.floor.Given as goal

abbrev pub invariant-loop-row : goal.invariant-loop-row
invariant-loop-row l = record {
  done : (i : ℕ) → i < l.row-index → slice_index_or l.row-items i [] ≡ map (floored l.floor) (slice_index_or l.initial.row-items i []);
  left : (i : ℕ) → l.row-index ≤ i → slice_index_or l.row-items i [] ≡ slice_index_or l.initial.row-items i [];
}
