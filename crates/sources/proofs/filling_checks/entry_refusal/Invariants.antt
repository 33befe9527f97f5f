use Rattle.std.proofs.Common.{◌≡◌, ℕ, ◌<◌, None, slice_index}
use Rattle.sources.specs.Sheets.{refusal_at}
use Rattle.sources.proofs.Refusing.{Least}
use Rattle.sources.proofs.filling_checks.entry_refusal.Given as goal

-- no entry is refused before this one, and its order is told by the least job and the starts that are not yet passed
abbrev pub invariant-loop-k : goal.invariant-loop-k
invariant-loop-k l =
    ((j : ℕ) → j < l.k → refusal_at l.heading l.starts l.entries j ≡ None)
    × Least l.starts l.entries l.k l.least
    × ((j : ℕ) → j < l.next → slice_index l.starts j < l.k)
