-- What is printed of a text that was to be made.
use Rattle.std.specs.Prelude.{◌≡◌, ℕ, List, [], ◌∷◌, ◌++◌, IfOk, IfSome, Some, None, Ok, Err, Option, Result, String, string_bytes}
use Rattle.std.specs.declared.alloc.AllocError.{AllocError}
use Rattle.std.specs.declared.alloc.Global.{Global}
use Rattle.texts.specs.declared.Failure.{Failure}
use Rattle.texts.specs.declared.Failure.TheVariants.{Memory, Refused}
use Rattle.texts.specs.declared.Printed.{Printed}

-- Byte 10 ends each line.
abbrev pub newline : List ℕ
newline = 10 ∷ []

-- A text that was made is printed as it is. A refusal is told, and its line is the text: the word, and what the refusal
-- shows.
abbrev pub Telling : {E : Type 0} → (E → Option (List ℕ)) → List ℕ → Result (String Global) (Failure E) → Result (Printed E) AllocError → Type 0
Telling output word (Ok text) r = r ≡ Ok (record { text = text; refused = None })
Telling output word (Err Memory) r = r ≡ Err (record {})
Telling output word (Err (Refused e)) r =
    IfOk r (λ p. IfSome (output e) (λ bs. string_bytes p.text ≡ (word ++ bs) ++ newline) × (p.refused ≡ Some e))
