use Rattle.std.proofs.Common.{◌≡◌, ◌++◌, string_bytes}
use Rattle.std.specs.List.{flat_map}
use Rattle.inspection.specs.Listing.{entry_text}
use Rattle.inspection.proofs.append_row.Given as goal

-- the entries so far are in the text
abbrev pub invariant-loop-job : goal.invariant-loop-job
invariant-loop-job g l = string_bytes l.text ≡ string_bytes l.initial.text ++ flat_map entry_text l.yielded
