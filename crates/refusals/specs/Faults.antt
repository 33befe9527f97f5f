use Rattle.std.specs.Prelude.{ℕ, List, ◌++◌, Some, None, codes, decimal, Option}
use Rattle.refusals.specs.declared.Refusal.{Refusal}
use Rattle.refusals.specs.declared.Fault.{Fault}
use Rattle.refusals.specs.Numbering.{number_of}
use Rattle.refusals.specs.Reasons.{reason_of, refusal_text}

-- A refusal that begins at a byte place of a file.
abbrev pub fault_at : Refusal → ℕ → Fault
fault_at r at = record { refusal = r; place = Some at }

-- A refusal that has no place.
abbrev pub fault_of : Refusal → Fault
fault_of r = record { refusal = r; place = None }

-- A refusal with the place that it may have, as it is printed.
abbrev pub text_at : Refusal → Option ℕ → List ℕ
text_at r None = refusal_text r
text_at r (Some at) = decimal (number_of r) ++ (codes " at " ++ (decimal at ++ (codes ": " ++ reason_of r)))

abbrev pub fault_text : Fault → List ℕ
fault_text f = text_at f.refusal f.place
