use Rattle.std.proofs.Common.{ℕ, ◌-◌, ◌<◌, ◌≤◌, length, slice_index}
use Rattle.sources.proofs.filling_checks.start_from.Given as goal

abbrev pub invariant-loop-next : goal.invariant-loop-next
invariant-loop-next l = (j : ℕ) → l.from ≤ j → j < l.next → slice_index l.starts j < l.k

abbrev pub decreases-loop-next : goal.decreases-loop-next
decreases-loop-next l = length l.starts - l.next
