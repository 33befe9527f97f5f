use Rattle.std.proofs.Common.{◌≡◌, take, drop}
use Rattle.rings.specs.Held.{held, room}
use Rattle.rings.specs.Moves.{list_after_all, outcomes_of}
use Rattle.rings.proofs.Ring.perform_all.Given as goal

-- The moves so far are made, and what came of them is written.
abbrev pub invariant-loop-i : goal.invariant-loop-i
invariant-loop-i g l =
    (held l.self ≡ list_after_all (room l.initial.self) (held l.initial.self) (take l.i l.moves))
    × (room l.self ≡ room l.initial.self)
    × (take l.i l.outcomes ≡ outcomes_of (room l.initial.self) (held l.initial.self) (take l.i l.moves))
    × (drop l.i l.outcomes ≡ drop l.i l.initial.outcomes)
