-- The lines of a log, one after another.
use Rattle.std.proofs.Common.{◌≡◌, ℕ, ◌+◌, ◌<◌, ◌≤◌, Bool, false, eqb, List, [], ◌∷◌, length, get_or, drop, Some, None, Ok, Err, sym, refl, ap, ◌∙◌, arith}
use Rattle.std.proofs.lemmas.Iterator.{YieldsList}
use Rattle.std.proofs.lemmas.Iterator.Consumers.{YieldsList-end, YieldsList-from_enumerate, YieldsList-turn}
use Rattle.std.proofs.lemmas.Iterator.Splits.{YieldsList-from_slice_split}
use Rattle.std.proofs.lemmas.Bool.{cond-false, le-ltb}
use Rattle.std.proofs.lemmas.List.{drop_all, drop_more}
use Rattle.std.proofs.lemmas.List.FromFn.{get_or-enumerate_from, length-enumerate_from}
use Rattle.std.specs.Fn.{CalledAt}
use Rattle.std.specs.Iterator.{Yields}
use Rattle.std.specs.Iterator.Adapters.{enumerate_count, enumerate_source, enumerate_steps}
use Rattle.std.specs.List.{enumerate_from}
use Rattle.std.specs.Slice.Iter.{split_callee, split_done, split_rest, split_steps}
use denote.Param.Members.{Mut}
use denote.Ref.{Bor}
use Rattle.texts.specs.declared.Failure.{Failure}
use Rattle.texts.specs.declared.Failure.TheVariants.{Memory, Refused}
use Rattle.replaying.specs.declared.log.Trouble.{Trouble}
use Rattle.replaying.specs.declared.log.Trouble.TheVariants.{Line}
use Rattle.replaying.specs.Logs.{Asked, Notes, ReadsLog, asked_from, asked_in, noted_by, nothing_asked, or_line}
use Rattle.replaying.specs.Parts.{lines_of}

-- a line that cannot stand there, and one that can
pub asked_bad : (n : ℕ) (a : Asked) (line : List ℕ) (lines : List (List ℕ)) → noted_by line a ≡ None → asked_from n a (line ∷ lines) ≡ Err (Line n)
unfolding asked_from
asked_bad n a line lines e = ap (λ o. or_line n o (λ b. asked_from (n + 1) b lines)) e

pub asked_more : (n : ℕ) (a b : Asked) (line : List ℕ) (lines : List (List ℕ)) → noted_by line a ≡ Some b → asked_from n a (line ∷ lines) ≡ asked_from (n + 1) b lines
unfolding asked_from
asked_more n a b line lines e = ap (λ o. or_line n o (λ b. asked_from (n + 1) b lines)) e

pub asked_all : (n : ℕ) (a : Asked) → asked_from n a [] ≡ Ok a
unfolding asked_from
asked_all n a = refl

-- the numbered lines of a text
module _ {F : Type 0} (g : Mut F (Bor ℕ × Unit {0}) Bool) {f : F} (text : List ℕ) (s t : _) (xs : List (ℕ × Bor (List ℕ))) (yields : Yields (enumerate_steps (split_steps g)) s xs t)
    (rest : split_rest (enumerate_source s) ≡ text) (done : split_done (enumerate_source s) ≡ false) (closure : split_callee (enumerate_source s) ≡ f) (count : enumerate_count s ≡ 0)
    (tests : (x : ℕ) (b : Bool) (q : F) → CalledAt g f x b q → (q ≡ f) × (b ≡ eqb x 10)) where
  numbered : YieldsList {B = ℕ × List ℕ} (enumerate_steps (split_steps g)) (λ p. (p.0, p.1.now)) s (enumerate_from 0 (lines_of text))
  numbered = YieldsList-from_enumerate (YieldsList-from_slice_split g (λ b. eqb b 10) text rest done closure tests) count

  -- the line of this turn
  pub line_here : (u : _) (i : ℕ) (x : Bor (List ℕ)) → enumerate_steps (split_steps g) t (Some (i, x)) u → (i ≡ length xs) × (drop (length xs) (lines_of text) ≡ x.now ∷ drop (length xs + 1) (lines_of text))
  line_here u i x k =
      let m = YieldsList-turn numbered xs t yields (Some (i, x)) u (i, x) refl k in
      let inside : length xs < length (lines_of text) = omega (arith, m.0, length-enumerate_from 0 (lines_of text)) in
      let e : ◌≡◌ {A = ℕ × List ℕ} (i, x.now) (0 + length xs, get_or (lines_of text) (length xs) x.now) = m.1 ∙ get_or-enumerate_from 0 (lines_of text) (length xs) (i, x.now) inside in
      let n : i ≡ 0 + length xs = ap (λ p. p.0) e in
      (omega (arith, n), drop_more (lines_of text) (length xs) x.now inside ∙ ap (λ l. l ∷ drop (length xs + 1) (lines_of text)) (sym (ap (λ p. p.1) e)))

  -- no line is left
  pub lines_gone : (u : _) → enumerate_steps (split_steps g) t None u → drop (length xs) (lines_of text) ≡ []
  lines_gone u k = let m = YieldsList-end numbered xs t yields None u refl k in drop_all (length xs) (lines_of text) (omega (arith, m.1, length-enumerate_from 0 (lines_of text)))

module _ (lines : List (List ℕ)) (k : ℕ) (a : Asked) (line : List ℕ) (here : drop k lines ≡ line ∷ drop (k + 1) lines) where
  -- the line is taken in
  pub asked_on : (n : ℕ) (b : Asked) → n ≡ k + 1 → noted_by line a ≡ Some b → asked_from (n + 1) b (drop n lines) ≡ asked_from (k + 1) a (drop k lines)
  asked_on n b e h = ap (λ m. asked_from (m + 1) b (drop m lines)) e ∙ sym (ap (asked_from (k + 1) a) here ∙ asked_more (k + 1) a b line (drop (k + 1) lines) h)

  -- it is not, or memory ran out
  pub read_err : (text : List ℕ) (i : ℕ) (new : Asked) (e : Failure Trouble) → i ≡ k → asked_in text ≡ asked_from (k + 1) a (drop k lines) → Notes (i + 1) (noted_by line a) new (Err e) → ReadsLog (asked_in text) (Err e)
  read_err text i new Memory z is h = tt
  read_err text i new (Refused t) z is h = is ∙ ap (asked_from (k + 1) a) here ∙ asked_bad (k + 1) a line (drop (k + 1) lines) h.0 ∙ ap (λ n. Err (Line (n + 1))) (sym z) ∙ ap Err (sym h.1)

-- a log that is short enough
pub asked_short : (text : List ℕ) → length text ≤ 65536 → asked_in text ≡ asked_from 1 nothing_asked (lines_of text)
unfolding asked_in
asked_short text h = cond-false _ _ _ (le-ltb 65536 (length text) h)
