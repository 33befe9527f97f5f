use Rattle.std.proofs.Common.{◌≡◌, ◌+◌, length, drop}
use Rattle.replaying.specs.Logs.{asked_from, held_in, nothing_asked}
use Rattle.replaying.specs.Parts.{lines_of}
use Rattle.replaying.proofs.log.read_log.Given as goal

-- what is left of the text asks for the rest
abbrev pub invariant-loop-i : goal.invariant-loop-i
invariant-loop-i l = asked_from (length l.yielded + 1) (held_in l.log) (drop (length l.yielded) (lines_of l.text)) ≡ asked_from 1 nothing_asked (lines_of l.text)
