-- Pieces that are put one after another.
use Rattle.std.proofs.Common.{◌≡◌, ℕ, ◌+◌, ◌≤◌, List, ◌++◌, length, take, drop, sym, ap, ◌∙◌, subst, arith}
use Rattle.std.proofs.lemmas.List.{append_assoc, drop_at, drop-drop, length-append, length-take-le, take_at}
use Rattle.std.specs.List.{splice}
use Rattle.outputs.specs.Puts.{Puts}
use Rattle.outputs.specs.declared.Output.{Output}

-- other elements in the stead of some, then of those behind them
pub splice_then : {A : Type 0} (xs ys zs : List A) (a : ℕ) → a + length ys ≤ length xs
    → splice (splice xs a (a + length ys) ys) (a + length ys) (a + length ys + length zs) zs ≡ splice xs a (a + length (ys ++ zs)) (ys ++ zs)
splice_then xs ys zs a fits =
    let rest = drop (a + length ys) xs in
    let front = take a xs ++ ys in
    let w : splice xs a (a + length ys) ys ≡ front ++ rest = sym (append_assoc (take a xs) ys rest) in
    let l : length front ≡ a + length ys = omega (arith, length-append (take a xs) ys, length-take-le a xs (omega arith)) in
    let f : take (a + length ys) (splice xs a (a + length ys) ys) ≡ front = ap (take (a + length ys)) w ∙ take_at front rest (a + length ys) l in
    let d : drop (a + length ys + length zs) (splice xs a (a + length ys) ys) ≡ drop (a + length (ys ++ zs)) xs =
    sym (drop-drop (length zs) (a + length ys) (splice xs a (a + length ys) ys)) ∙ ap (drop (length zs)) (ap (drop (a + length ys)) w ∙ drop_at front rest (a + length ys) l)
    ∙ drop-drop (length zs) (a + length ys) xs ∙ ap (λ m. drop m xs) (omega (arith, length-append ys zs)) in
    ap (λ p. p ++ (zs ++ drop (a + length ys + length zs) (splice xs a (a + length ys) ys))) f ∙ ap (λ q. front ++ (zs ++ q)) d
    ∙ append_assoc (take a xs) ys (zs ++ drop (a + length (ys ++ zs)) xs) ∙ ap (λ q. take a xs ++ q) (sym (append_assoc ys zs (drop (a + length (ys ++ zs)) xs)))

-- two pieces, one after the other, are one piece
pub puts_then : {o p q : Output} {x y : List ℕ} → Puts o p x → Puts p q y → Puts o q (x ++ y)
puts_then {o} {p} {q} {x} {y} f g =
    let n = length-append x y in
    let long = f.long in
    record {
      same = g.same ∙ f.same;
      long = g.long ∙ f.long;
      counted = λ low. let e = f.counted (omega arith) in let d = g.counted (omega arith) in omega arith;
      placed = λ room. let e = f.placed (omega arith) in let d = g.placed (omega arith) in omega arith;
      written = λ room.
          let e = f.placed (omega arith) in
          g.written (omega arith)
          ∙ ap (λ m. splice p.bytes.now m (m + length y) y) e
          ∙ ap (λ bytes. splice bytes (o.count + length x) (o.count + length x + length y) y) (f.written (omega arith))
          ∙ splice_then o.bytes.now x y o.count (omega arith);
    }

-- the same piece by another name
pub puts_same : {o p : Output} {x y : List ℕ} → x ≡ y → Puts o p x → Puts o p y
puts_same {o} {p} same f = subst (λ z. Puts o p z) same f
