use Rattle.std.proofs.Common.{◌≡◌, ◌++◌, string_bytes}
use Rattle.std.specs.List.{flat_map}
use Rattle.replaying.specs.Shown.{answer_line}
use Rattle.replaying.proofs.printing.append_lines.Given as goal

-- the lines so far are in the text
abbrev pub invariant-loop-call : goal.invariant-loop-call
invariant-loop-call l = string_bytes l.text ≡ string_bytes l.initial.text ++ flat_map (λ p. answer_line p.0.now p.1.now) l.yielded
