-- A call's answer, and one more call of a list: its tally and its answer.
use Rattle.std.proofs.Common.{◌≡◌, ℕ, ◌+◌, ◌<◌, ◌≤◌, List, [], ◌∷◌, ◌++◌, length, get_or, take, drop, set, is_some, Option, Result, sym, refl, ap, ◌∙◌, subst, arith}
use Rattle.std.proofs.lemmas.List.{take_more, take_more_set, take_all, drop-set-lt, drop-drop, take-append-drop}
use Rattle.std.proofs.lemmas.List.Sums.{fold_more}
use Rattle.refusals.specs.declared.Refusal.{Refusal}
use Rattle.sources.specs.Meaning.{Meaning, Sound}
use Rattle.auction.specs.declared.calls.Call.{Call}
use Rattle.auction.specs.declared.calls.Answer.{Answer}
use Rattle.auction.specs.Tally.{Tally}
use Rattle.auction.specs.Calls.{answer_to, tally_by, tally_from, answers_from}
use Rattle.auction.specs.Reached.{Reached}
use Rattle.auction.proofs.Reaching.{reached_from, reached_laws}
use Rattle.auction.proofs.MadeOf.{runs_made}
use Rattle.auction.proofs.Sequential.{settles_alone}
use Rattle.auction.proofs.Started.{started_from}
use Rattle.hall.specs.declared.books.Books.{Books}
use Rattle.hall.specs.InBooks.{tally_of}
use Rattle.hall.specs.Replayed.{Performed}

answers_app : (m : Meaning) (o : Option Tally) (xs : List Call) (c : Call) → answers_from m o (xs ++ c ∷ []) ≡ answers_from m o xs ++ answer_to m (tally_from m o xs) c ∷ []
unfolding tally_from
answers_app m o [] c = refl
answers_app m o (x ∷ xs) c = ap (λ z. answer_to m o x ∷ z) (answers_app m (tally_by m o x) xs c)

-- The calls are performed from the tally o on.
module _ (m : Meaning) (o : Option Tally) (calls : List Call) (i : ℕ) (c : Call) (l : i < length calls) where
  pub tally_more : (t p : Option Tally) → t ≡ tally_from m o (take i calls) → p ≡ tally_by m t (get_or calls i c) → p ≡ tally_from m o (take (i + 1) calls)
  unfolding tally_from
  tally_more t p before now = now ∙ ap (λ z. tally_by m z (get_or calls i c)) before ∙ sym (fold_more (tally_by m) o calls i c l)

  pub answer_more : (t : Option Tally) (a : Result Answer Refusal) (xs ys : List (Result Answer Refusal)) → t ≡ tally_from m o (take i calls) → a ≡ answer_to m t (get_or calls i c) → i < length xs →
      take i xs ≡ answers_from m o (take i calls) → ys ≡ set xs i a → take (i + 1) ys ≡ answers_from m o (take (i + 1) calls)
  answer_more t a xs ys before now l' h e =
      ap (take (i + 1)) e ∙ take_more_set xs i a l' ∙ ap (λ z. z ++ a ∷ []) h
      ∙ ap (λ z. answers_from m o (take i calls) ++ z ∷ []) (now ∙ ap (λ z. answer_to m z (get_or calls i c)) before)
      ∙ sym (ap (answers_from m o) (take_more calls i c l) ∙ answers_app m o (take i calls) (get_or calls i c))

pub beyond_more : (xs ys zs : List (Result Answer Refusal)) (i : ℕ) (a : Result Answer Refusal) → i < length xs → drop i xs ≡ drop i zs → ys ≡ set xs i a → drop (i + 1) ys ≡ drop (i + 1) zs
beyond_more xs ys zs i a l h e =
    ap (drop (i + 1)) e ∙ drop-set-lt (i + 1) xs i a (omega arith) ∙ sym (drop-drop 1 i xs) ∙ ap (drop 1) h ∙ drop-drop 1 i zs

pub all_performed : (m : Meaning) → Sound m → (o p : Option Tally) → Reached m o → (calls : List Call) (i : ℕ) (before after : List (Result Answer Refusal)) → length calls ≤ i → i ≤ length calls →
    p ≡ tally_from m o (take i calls) → take i after ≡ answers_from m o (take i calls) → drop i after ≡ drop i before → Performed m calls before after o p
all_performed m s o p h calls i before after l l' t a d =
    let e : i ≡ length calls = omega arith in
    let t' : p ≡ tally_from m o calls = t ∙ ap (tally_from m o) (take_all i calls l) in
    record {
      answered = sym (take-append-drop i after) ∙ ap (λ z. z ++ drop i after) (a ∙ ap (answers_from m o) (take_all i calls l))
          ∙ ap (λ z. answers_from m o calls ++ z) (d ∙ ap (λ n. drop n before) e);
      tallied = t';
      started = ap is_some t' ∙ started_from m o calls;
      laws_hold = λ first rest e. reached_laws m s (tally_from m o first) (reached_from m o first h);
      made = runs_made m s;
      sequential = settles_alone m s;
    }

-- ---- the same, where the hall's source is known to be the one that it had

module _ {S : Type 0} (mean : S → Meaning) (s s' : S) (same : s' ≡ s) (o : Option Tally) (b : Option Books) (calls : List Call) (i : ℕ) (c : Call) (l : i < length calls)
    (before : tally_of b ≡ tally_from (mean s) o (take i calls)) where
  pub tally_performed : (b' : Option Books) → tally_of b' ≡ tally_by (mean s') (tally_of b) (get_or calls i c) → tally_of b' ≡ tally_from (mean s) o (take (i + 1) calls)
  tally_performed b' now =
      tally_more (mean s) o calls i c l (tally_of b) (tally_of b') before
      (subst (λ z. tally_of b' ≡ tally_by (mean z) (tally_of b) (get_or calls i c)) same now)

  pub answer_performed : (a : Result Answer Refusal) (xs : List (Result Answer Refusal)) → a ≡ answer_to (mean s') (tally_of b) (get_or calls i c) → i < length xs →
      take i xs ≡ answers_from (mean s) o (take i calls) → take (i + 1) (set xs i a) ≡ answers_from (mean s) o (take (i + 1) calls)
  answer_performed a xs now l' h =
      answer_more (mean s) o calls i c l (tally_of b) a xs (set xs i a) before (subst (λ z. a ≡ answer_to (mean z) (tally_of b) (get_or calls i c)) same now) l' h refl
