-- What comes of steps that may be refused.
use Rattle.std.specs.Prelude.{ℕ, cond, List, ◌++◌, Ok, Err, Result, nat_le}
use Rattle.std.specs.Result.{result_map_both}
use Rattle.refusals.specs.declared.Fault.{Fault}

-- The next step is made with what the first one gave; a refusal of the first ends both.
abbrev pub and_then : {A B E : Type 0} → Result A E → (A → Result B E) → Result B E
and_then (Err e) f = Err e
and_then (Ok x) f = f x

-- The answer of a step that gives nothing.
abbrev pub without_value : {A E : Type 0} → Result A E → Result (Unit {0}) E
without_value r = result_map_both (λ _. tt) (λ e. e) r

-- What a step makes of x: it stays as it was if the step is refused.
abbrev pub updated : {A X E : Type 0} → Result A E → X → (A → X) → X
updated (Err e) x f = x
updated (Ok a) x f = f a

-- x, if there is as much room as it needs; else the refusal e.
abbrev pub room_for : {A E : Type 0} → E → ℕ → ℕ → A → Result A E
room_for e need room x = cond (nat_le need room) (Ok x) (Err e)

-- The elements xs before those that are read next.
abbrev pub prefixed : {A : Type 0} → List A → Result (List A × ℕ) Fault → Result (List A × ℕ) Fault
prefixed xs r = result_map_both (λ x. (xs ++ x.0, x.1)) (λ e. e) r
