-- What pushes and pops do to a list that has room for n, and what comes of them.
use Rattle.std.specs.Prelude.{◌≡◌, ℕ, cond, List, [], ◌∷◌, ◌++◌, length, drop, Some, None, Ok, Err, fold, nat_lt}
use Rattle.std.specs.Option.{option_to_list}
use Rattle.refusals.specs.declared.Refusal.TheVariants.{TooShort}
use Rattle.rings.specs.declared.moves.Move.{Move}
use Rattle.rings.specs.declared.moves.Move.TheVariants.{Push, Pop}
use Rattle.rings.specs.declared.moves.Outcome.{Outcome}
use Rattle.rings.specs.declared.moves.Outcome.TheVariants.{Pushed, Popped}

-- A push goes to the end if there is room, and a pop takes the first.
abbrev pub list_after : {X : Type 0} → ℕ → List X → Move X → List X
list_after n xs (Push x) = cond (nat_lt (length xs) n) (xs ++ x ∷ []) xs
list_after n [] Pop = []
list_after n (y ∷ xs) Pop = xs

abbrev pub outcome_of : {X : Type 0} → ℕ → List X → Move X → Outcome X
outcome_of n xs (Push x) = Pushed (cond (nat_lt (length xs) n) (Ok tt) (Err TooShort))
outcome_of n [] Pop = Popped None
outcome_of n (y ∷ xs) Pop = Popped (Some y)

-- The list after all the moves, and what comes of each.
abbrev pub list_after_all : {X : Type 0} → ℕ → List X → List (Move X) → List X
list_after_all n xs ms = fold (list_after n) xs ms

abbrev pub outcomes_of : {X : Type 0} → ℕ → List X → List (Move X) → List (Outcome X)
outcomes_of n xs [] = []
outcomes_of n xs (m ∷ ms) = outcome_of n xs m ∷ outcomes_of n (list_after n xs m) ms

-- What was pushed and not refused, in order.
abbrev pub pushed_by : {X : Type 0} → Move X → Outcome X → List X
pushed_by (Push x) (Pushed (Ok u)) = x ∷ []
pushed_by (Push x) (Pushed (Err e)) = []
pushed_by (Push x) (Popped o) = []
pushed_by Pop o = []

abbrev pub all_pushed : {X : Type 0} → List (Move X) → List (Outcome X) → List X
all_pushed [] os = []
all_pushed (m ∷ ms) [] = []
all_pushed (m ∷ ms) (o ∷ os) = pushed_by m o ++ all_pushed ms os

-- What was popped, in order.
abbrev pub popped_by : {X : Type 0} → Outcome X → List X
popped_by (Pushed r) = []
popped_by (Popped o) = option_to_list o

abbrev pub all_popped : {X : Type 0} → List (Outcome X) → List X
all_popped [] = []
all_popped (o ∷ os) = popped_by o ++ all_popped os

-- What a list of moves leaves of a ring that held xs and then holds ys, and of the outcomes.
pub record MovesMade {X : Type 0} (n : ℕ) (ms : List (Move X)) (xs ys : List X) (before after : List (Outcome X)) : Type 0 where
  -- What a list would yield; places behind stay.
  pub outcomes : after ≡ outcomes_of n xs ms ++ drop (length ms) before
  pub left : ys ≡ list_after_all n xs ms
  -- First in, first out: what was held and then pushed is what was popped and then held.
  pub in_order : xs ++ all_pushed ms (outcomes_of n xs ms) ≡ all_popped (outcomes_of n xs ms) ++ ys
