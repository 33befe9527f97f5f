-- What comes of inspecting any bytes.
use Rattle.std.specs.Prelude.{◌≡◌, ℕ, List, length, Some, None, Ok, Err, IsOkAnd, string_bytes, Result, String}
use Rattle.std.specs.declared.alloc.Global.{Global}
use Rattle.refusals.specs.declared.Fault.{Fault}
use Rattle.sources.specs.Meaning.{Meaning}
use Rattle.texts.specs.declared.Failure.{Failure}
use Rattle.texts.specs.declared.Failure.TheVariants.{Memory, Refused}
use Rattle.texts.specs.declared.Printed.{Printed}
use Rattle.sheetfile.specs.Layout.{SheetFile}
use Rattle.sheetfile.specs.Writing.{written}
use Rattle.inspection.specs.Listing.{refused_line, sheet_text}

-- What is printed tells what so many bytes come to: its text, and the fault.
abbrev pub TellsListing : Printed Fault → ℕ → Result Meaning Fault → Type 0
TellsListing p size (Ok m) = (string_bytes p.text ≡ sheet_text m size) × (p.refused ≡ None)
TellsListing p size (Err f) = (string_bytes p.text ≡ refused_line f) × (p.refused ≡ Some f)

-- If nothing is refused, the bytes are the file of the sheet that is listed, and what is written of that sheet are these bytes.
abbrev pub TellsFile : Printed Fault → List ℕ → Type 0
TellsFile p bytes = p.refused ≡ None → (m : Meaning) × SheetFile bytes m × (string_bytes p.text ≡ sheet_text m (length bytes)) × (written m ≡ bytes)

-- What comes of listing so many bytes that come to this. Nothing is said where memory ran out.
abbrev pub Lists : ℕ → Result Meaning Fault → Result (String Global) (Failure Fault) → Type 0
Lists size r (Ok text) = IsOkAnd r (λ m. string_bytes text ≡ sheet_text m size)
Lists size r (Err Memory) = Unit {0}
Lists size r (Err (Refused f)) = r ≡ Err f
