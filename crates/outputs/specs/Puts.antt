-- What putting pieces makes of an output.
use Rattle.std.specs.Prelude.{◌≡◌, ℕ, ◌+◌, ◌^◌, ◌<◌, ◌≤◌, List, length}
use Rattle.std.specs.List.{splice}
use Rattle.outputs.specs.declared.Output.{Output}

-- There is room for a piece where the last one ended.
abbrev pub HasRoom : Output → List ℕ → Type 0
HasRoom o piece = o.count + length piece ≤ length o.bytes.now

-- A piece is put, or pieces that make it one behind the other: it is counted, and it stands where the last one ended, if
-- there is room for all of it. The other bytes are then as they were.
pub record Puts (old new : Output) (piece : List ℕ) : Type 0 where
  pub same : new.bytes.ghost_name ≡ old.bytes.ghost_name
  pub long : length new.bytes.now ≡ length old.bytes.now
  pub counted : old.count + length piece < 2 ^ 64 → new.count ≡ old.count + length piece
  pub placed : HasRoom old piece → new.count ≡ old.count + length piece
  pub written : HasRoom old piece → new.bytes.now ≡ splice old.bytes.now old.count (old.count + length piece) piece
