-- A printed call is read back as that call.
use Rattle.std.specs.Prelude.{◌≡◌, ℕ, ◌^◌, ◌<◌, ◌≤◌, List, ◌++◌, length, Some, Ok}
use Rattle.std.specs.List.{flat_map, AllByRecursion}
use Rattle.auction.specs.declared.calls.Call.{Call}
use Rattle.auction.specs.declared.calls.Call.TheVariants.{Start, Summon, Look, Settle, Run, PriceOf, HolderOf, StandingOf, TotalWorth, AllCounts}
use Rattle.replaying.specs.declared.line.Said.TheVariants.{Make}
use Rattle.replaying.specs.Lines.{said_by}
use Rattle.replaying.specs.Logs.{asked_in, most_log_bytes, no_layers}
use Rattle.auction.specs.Shown.{call_text}
use Rattle.texts.specs.Telling.{newline}

-- The numbers of a call have 64 bits, as those of every call in the code.
abbrev pub Sized : Call → Type 0
Sized (Start step lanes) = (step < 2 ^ 64) × (lanes < 2 ^ 64)
Sized (Summon i) = i < 2 ^ 64
Sized (Look i) = i < 2 ^ 64
Sized (Settle i) = i < 2 ^ 64
Sized (Run depth budget) = (depth < 2 ^ 64) × (budget < 2 ^ 64)
Sized (PriceOf j) = j < 2 ^ 64
Sized (HolderOf j) = j < 2 ^ 64
Sized (StandingOf i) = i < 2 ^ 64
Sized TotalWorth = Unit {0}
Sized AllCounts = Unit {0}

-- A log of calls in their plain forms, a line each.
abbrev pub plain_line : Call → List ℕ
plain_line c = call_text c ++ newline

abbrev pub plain_log : List Call → List ℕ
plain_log calls = flat_map plain_line calls

-- Every call's plain form says that call; and the log of any calls, if it is not too long, asks for these calls under no layer.
pub record ReadsBack : Type 0 where
  pub call : (c : Call) → Sized c → said_by (call_text c) ≡ Some (Make c)
  pub log : (calls : List Call) → AllByRecursion Sized calls → length (plain_log calls) ≤ most_log_bytes → asked_in (plain_log calls) ≡ Ok (record { layers = no_layers; calls = calls })
