-- What comes of replaying any log over any sheet file.
use Rattle.std.specs.Prelude.{◌≡◌, ℕ, List, ◌++◌, Some, None, Ok, Err, string_bytes, codes, decimal, Result, String}
use Rattle.refusals.specs.declared.Fault.{Fault}
use Rattle.refusals.specs.Faults.{fault_text}
use Rattle.refusals.specs.Reasons.{refusal_text}
use Rattle.sources.specs.Meaning.{Meaning}
use Rattle.auction.specs.Calls.{answers_from}
use Rattle.std.specs.declared.alloc.Global.{Global}
use Rattle.texts.specs.declared.Failure.{Failure}
use Rattle.texts.specs.declared.Failure.TheVariants.{Memory, Refused}
use Rattle.texts.specs.declared.Printed.{Printed}
use Rattle.replaying.specs.declared.log.Trouble.{Trouble}
use Rattle.replaying.specs.declared.log.Trouble.TheVariants.{Calls, Line, Sheet}
use Rattle.replaying.specs.Logs.{Asked, layered}
use Rattle.replaying.specs.Shown.{answer_lines}
use Rattle.texts.specs.Telling.{newline}

-- As `line 3 is not understood`.
abbrev pub trouble_text : Trouble → List ℕ
trouble_text (Calls e) = codes "calls refused " ++ refusal_text e
trouble_text (Line n) = codes "line " ++ (decimal n ++ codes " is not understood")
trouble_text (Sheet f) = codes "refused " ++ fault_text f

-- Nothing is replayed: the trouble is told, and its line is the text.
abbrev pub TellsTrouble : Printed Trouble → Trouble → Type 0
TellsTrouble p t = (string_bytes p.text ≡ trouble_text t ++ newline) × (p.refused ≡ Some t)

-- The text of a replay, or why there is none, from what a log asks for and what a sheet file comes to. The log's trouble comes before the sheet's.
abbrev pub replayed : Result Asked Trouble → Result Meaning Fault → Result (List ℕ) Trouble
replayed (Err t) sheet = Err t
replayed (Ok a) (Err f) = Err (Sheet f)
replayed (Ok a) (Ok m) = Ok (answer_lines a.calls (answers_from (layered a m) None a.calls))

-- What is printed tells this text, or why there is none.
abbrev pub Tells : Printed Trouble → Result (List ℕ) Trouble → Type 0
Tells p (Ok text) = (string_bytes p.text ≡ text) × (p.refused ≡ None)
Tells p (Err t) = TellsTrouble p t

-- What comes of a replay. Nothing is said where memory ran out.
abbrev pub Replays : Result (List ℕ) Trouble → Result (String Global) (Failure Trouble) → Type 0
Replays r (Ok text) = r ≡ Ok (string_bytes text)
Replays r (Err Memory) = Unit {0}
Replays r (Err (Refused t)) = r ≡ Err t
