-- What a buffer holds after a text was put piece by piece.
use Rattle.std.proofs.Common.{◌≡◌, ℕ, ◌≤◌, List, length, ap, ◌∙◌, arith}
use Rattle.numbers.specs.Writing.{over}
use Rattle.outputs.specs.Puts.{Puts}
use Rattle.outputs.specs.declared.Output.{Output}

-- the bytes of an output that had counted none, after a text that has room was put
pub puts_over : {old new : Output} {text : List ℕ} → Puts old new text → old.count ≡ 0 → length text ≤ length old.bytes.now → new.bytes.now ≡ over old.bytes.now 0 text
puts_over {old} {new} {text} put none room = put.written (omega (arith, none, room)) ∙ ap (λ k. over old.bytes.now k text) none
