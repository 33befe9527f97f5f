-- What is printed of a replay.
use Rattle.std.specs.Prelude.{ℕ, List, ◌++◌, Ok, Err, codes, Result}
use Rattle.std.specs.List.{flat_map, zip}
use Rattle.refusals.specs.declared.Refusal.{Refusal}
use Rattle.refusals.specs.Reasons.{refusal_text}
use Rattle.texts.specs.Telling.{newline}
use Rattle.auction.specs.Shown.{answer_text, call_text}
use Rattle.auction.specs.declared.calls.Call.{Call}
use Rattle.auction.specs.declared.calls.Answer.{Answer}

-- A call's answer, or the refusal.
abbrev pub told_text : Result Answer Refusal → List ℕ
told_text (Ok a) = answer_text a
told_text (Err e) = codes "refused " ++ refusal_text e

-- A call and what it told, as `settle 0: job 1 at 6`.
abbrev pub answer_line : Call → Result Answer Refusal → List ℕ
answer_line c told = call_text c ++ (codes ": " ++ (told_text told ++ newline))

-- A line for each call, with what it told.
abbrev pub answer_lines : List Call → List (Result Answer Refusal) → List ℕ
answer_lines calls answers = flat_map (λ p. answer_line p.0 p.1) (zip calls answers)
