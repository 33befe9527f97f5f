-- A line by its words.
use Rattle.std.proofs.Common.{◌≡◌, ℕ, Bool, false, eqb, List, [], ◌∷◌, length, is_some, Some, None, Option, get_or, sym, refl, ap, ◌∙◌, arith}
use Rattle.std.proofs.lemmas.Bool.{cond-false, lt-ltb}
use Rattle.std.proofs.lemmas.Iterator.Splits.{YieldsList-from_slice_split}
use Rattle.std.specs.Fn.{CalledAt}
use Rattle.std.specs.Iterator.{AlwaysYields}
use Rattle.std.specs.Slice.Iter.{split_callee, split_done, split_rest, split_steps}
use denote.Param.Members.{Mut}
use denote.Ref.{Bor}
use Rattle.std.specs.Option.{option_map}
use Rattle.replaying.specs.declared.line.Said.{Said}
use Rattle.replaying.specs.Lines.{said_by, said_by_words, said_with}
use Rattle.replaying.specs.Parts.{words_of}

-- what an iterator gives first, and what is left behind it
module _ {S A B : Type 0} (steps : S → Option A → S → Type 0) (v : A → B) where
  pub record Behind (t : S) (x : A) (ys : List B) : Type 0 where
    pub rest : List B
    pub is : ys ≡ v x ∷ rest
    pub yields : AlwaysYields steps v t rest

  an_item : (s t : S) (x : A) (ys : List B) → steps s (Some x) t → AlwaysYields steps v s ys → Behind t x ys
  an_item s t x [] k h = absurd (h x t k)
  an_item s t x (y ∷ ys) k h = let m = h.1 x t k in record { rest = ys; is = ap (λ z. z ∷ ys) (sym m.0); yields = m.1 }

  no_item : (s t : S) (ys : List B) → steps s None t → AlwaysYields steps v s ys → ys ≡ []
  no_item s t [] k h = refl
  no_item s t (y ∷ ys) k h = absurd (h.0 t k)

-- what a word says, and the three words that are asked for behind it
module _ {S A : Type 0} (steps : S → Option A → S → Type 0) (v : A → List ℕ) (w : List ℕ) where
  said_third : (s t : S) (a b : List ℕ) (o : Option A) (ws : List (List ℕ)) → steps s o t → AlwaysYields steps v s ws → said_with w (Some a) (Some b) (is_some o) ≡ said_by_words (w ∷ (a ∷ (b ∷ ws)))
  said_third s t a b None ws k h = ap (λ r. said_by_words (w ∷ (a ∷ (b ∷ r)))) (sym (no_item steps v s t ws k h))
  said_third s t a b (Some c) ws k h =
      let m = an_item steps v s t c ws k h in
      ap (said_with w (Some a) (Some b)) (sym (lt-ltb 2 (length (a ∷ (b ∷ (v c ∷ m.rest)))) (omega arith))) ∙ ap (λ r. said_by_words (w ∷ (a ∷ (b ∷ r)))) (sym m.is)

  said_second : (s t u : S) (a : List ℕ) (o p : Option A) (ws : List (List ℕ)) → steps s o t → steps t p u → AlwaysYields steps v s ws → said_with w (Some a) (option_map v o) (is_some p) ≡ said_by_words (w ∷ (a ∷ ws))
  said_second s t u a None p ws k l h = ap (λ r. said_by_words (w ∷ (a ∷ r))) (sym (no_item steps v s t ws k h))
  said_second s t u a (Some b) p ws k l h = let m = an_item steps v s t b ws k h in said_third t u a (v b) p m.rest l m.yields ∙ ap (λ r. said_by_words (w ∷ (a ∷ r))) (sym m.is)

  pub said_first : (s t u x : S) (o p q : Option A) (ws : List (List ℕ)) → steps s o t → steps t p u → steps u q x → AlwaysYields steps v s ws → said_with w (option_map v o) (option_map v p) (is_some q) ≡ said_by_words (w ∷ ws)
  said_first s t u x None p q ws k l n h = ap (λ r. said_by_words (w ∷ r)) (sym (no_item steps v s t ws k h))
  said_first s t u x (Some a) p q ws k l n h = let m = an_item steps v s t a ws k h in said_second t u x (v a) p q m.rest l n m.yields ∙ ap (λ r. said_by_words (w ∷ r)) (sym m.is)

-- a line that is no comment
pub said_line : {F : Type 0} (g : Mut F (Bor ℕ × Unit {0}) Bool) {f : F} (line : List ℕ) (said : Option Said) (s t u x y : _) (w : Bor (List ℕ)) (o p q : Option (Bor (List ℕ)))
    → eqb (get_or line 0 0) 35 ≡ false → said ≡ said_with w.now (option_map (λ x. x.now) o) (option_map (λ x. x.now) p) (is_some q)
    → split_steps g s (Some w) t → split_steps g t o u → split_steps g u p x → split_steps g x q y → split_rest s ≡ line → split_done s ≡ false → split_callee s ≡ f
    → ((x : ℕ) (b : Bool) (q : F) → CalledAt g f x b q → (q ≡ f) × (b ≡ eqb x 32)) → said ≡ said_by line
unfolding said_by
said_line g line said s t u x y w o p q plain is k l n z rest done closure tests =
    let m = an_item (split_steps g) (λ x. x.now) s t w (words_of line) k (YieldsList-from_slice_split g (λ b. eqb b 32) line rest done closure tests).runs in
    is ∙ said_first (split_steps g) (λ x. x.now) w.now t u x y o p q m.rest l n z m.yields ∙ sym (cond-false _ _ _ plain ∙ ap said_by_words m.is)
