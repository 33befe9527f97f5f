use Rattle.std.proofs.Common.{◌≡◌, ℕ, ◌<◌, ◌≤◌, ◌⊎◌}
use Rattle.grids.specs.Worths.{worth_numbered}
use Rattle.grids.proofs.Grid.best.Given as goal

abbrev pub invariant-loop-number : goal.invariant-loop-number
invariant-loop-number l = record {
  reached : (l.most ≡ 0) ⊎ ((n : ℕ) × (n < l.number) × (worth_numbered l.self.worths n ≡ l.most));
  above : (n : ℕ) → n < l.number → worth_numbered l.self.worths n ≤ l.most;
}
