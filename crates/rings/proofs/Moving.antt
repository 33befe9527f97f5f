-- One more move of a list: what is held after it, and what came of it.
use Rattle.std.proofs.Common.{◌≡◌, ℕ, ◌+◌, ◌<◌, ◌≤◌, Bool, true, false, cond, ltb, Ok, Err, List, [], ◌∷◌, ◌++◌, length, get_or, take, drop, set, sym, refl, ap, ◌∙◌, append_assoc, arith}
use Rattle.std.proofs.lemmas.List.{take_more, take_more_set, take_all, drop-set-lt, drop-drop, take-append-drop, append-nil}
use Rattle.std.proofs.lemmas.List.Sums.{fold_more}
use Rattle.refusals.specs.declared.Refusal.TheVariants.{TooShort}
use Rattle.rings.specs.declared.moves.Move.{Move}
use Rattle.rings.specs.declared.moves.Move.TheVariants.{Push, Pop}
use Rattle.rings.specs.declared.moves.Outcome.{Outcome}
use Rattle.rings.specs.declared.moves.Outcome.TheVariants.{Pushed}
use Rattle.rings.specs.Moves.{list_after, outcome_of, list_after_all, outcomes_of, pushed_by, all_pushed, popped_by, all_popped, MovesMade}

-- One move keeps the order.
one_in_order : {X : Type 0} (n : ℕ) (xs : List X) (m : Move X) → xs ++ pushed_by m (outcome_of n xs m) ≡ popped_by (outcome_of n xs m) ++ list_after n xs m
one_in_order n xs (Push x) =
    go (ltb (length xs) n)
  where
    go : (b : Bool) → xs ++ pushed_by (Push x) (Pushed (cond b (Ok tt) (Err TooShort))) ≡ cond b (xs ++ x ∷ []) xs
    go true = refl
    go false = append-nil xs
one_in_order n [] Pop = refl
one_in_order n (y ∷ xs) Pop = append-nil (y ∷ xs)

pub all_in_order : {X : Type 0} (n : ℕ) (ms : List (Move X)) (xs : List X) →
    xs ++ all_pushed ms (outcomes_of n xs ms) ≡ all_popped (outcomes_of n xs ms) ++ list_after_all n xs ms
all_in_order n [] xs = append-nil xs
all_in_order n (m ∷ ms) xs =
    sym (append_assoc xs (pushed_by m (outcome_of n xs m)) (all_pushed ms (outcomes_of n (list_after n xs m) ms)))
    ∙ ap (λ z. z ++ all_pushed ms (outcomes_of n (list_after n xs m) ms)) (one_in_order n xs m)
    ∙ append_assoc (popped_by (outcome_of n xs m)) (list_after n xs m) (all_pushed ms (outcomes_of n (list_after n xs m) ms))
    ∙ ap (λ z. popped_by (outcome_of n xs m) ++ z) (all_in_order n ms (list_after n xs m))
    ∙ sym (append_assoc (popped_by (outcome_of n xs m)) (all_popped (outcomes_of n (list_after n xs m) ms)) (list_after_all n (list_after n xs m) ms))

outcomes_more : {X : Type 0} (n : ℕ) (xs : List X) (ms : List (Move X)) (m : Move X) → outcomes_of n xs (ms ++ m ∷ []) ≡ outcomes_of n xs ms ++ outcome_of n (list_after_all n xs ms) m ∷ []
outcomes_more n xs [] m = refl
outcomes_more n xs (k ∷ ms) m = ap (λ z. outcome_of n xs k ∷ z) (outcomes_more n (list_after n xs k) ms m)

module _ {X : Type 0} (n : ℕ) (xs : List X) (ms : List (Move X)) (i : ℕ) (d : Move X) (l : i < length ms) where
  pub list_more : (ys zs : List X) → ys ≡ list_after_all n xs (take i ms) → zs ≡ list_after n ys (get_or ms i d) → zs ≡ list_after_all n xs (take (i + 1) ms)
  list_more ys zs before now =
      now ∙ ap (λ z. list_after n z (get_or ms i d)) before ∙ sym (fold_more (list_after n) xs ms i d l)

  pub outcome_more : (ys : List X) (o : Outcome X) (os : List (Outcome X)) → ys ≡ list_after_all n xs (take i ms) → o ≡ outcome_of n ys (get_or ms i d) → i < length os →
      take i os ≡ outcomes_of n xs (take i ms) → take (i + 1) (set os i o) ≡ outcomes_of n xs (take (i + 1) ms)
  outcome_more ys o os before now l' h =
      take_more_set os i o l' ∙ ap (λ z. z ++ o ∷ []) h
      ∙ ap (λ z. outcomes_of n xs (take i ms) ++ z ∷ []) (now ∙ ap (λ z. outcome_of n z (get_or ms i d)) before)
      ∙ sym (ap (outcomes_of n xs) (take_more ms i d l) ∙ outcomes_more n xs (take i ms) (get_or ms i d))

pub behind_more : {Y : Type 0} (os before : List Y) (i : ℕ) (o : Y) → i < length os → drop i os ≡ drop i before → drop (i + 1) (set os i o) ≡ drop (i + 1) before
behind_more os before i o l h = drop-set-lt (i + 1) os i o (omega arith) ∙ sym (drop-drop 1 i os) ∙ ap (drop 1) h ∙ drop-drop 1 i before

pub all_performed : {X : Type 0} (n : ℕ) (ms : List (Move X)) (xs ys : List X) (before after : List (Outcome X)) (i : ℕ) → length ms ≤ i → i ≤ length ms →
    ys ≡ list_after_all n xs (take i ms) → take i after ≡ outcomes_of n xs (take i ms) → drop i after ≡ drop i before → MovesMade n ms xs ys before after
all_performed n ms xs ys before after i l l' h t d =
    let e : i ≡ length ms = omega arith in
    let w = take_all i ms l in
    let y : ys ≡ list_after_all n xs ms = h ∙ ap (list_after_all n xs) w in
    record {
      outcomes = sym (take-append-drop i after) ∙ ap (λ z. z ++ drop i after) (t ∙ ap (outcomes_of n xs) w) ∙ ap (λ z. outcomes_of n xs ms ++ z) (d ∙ ap (λ k. drop k before) e);
      left = y;
      in_order = all_in_order n ms xs ∙ ap (λ z. all_popped (outcomes_of n xs ms) ++ z) (sym y);
    }
