-- Results that follow one another, taken apart and put together.
use Rattle.std.proofs.Common.{◌≡◌, ℕ, ◌<◌, ◌≤◌, Bool, true, false, cond, ◌&&◌, ltb, leb, List, ◌++◌, Ok, Err, Result, sym, refl, ap, ◌∙◌, arith}
use Rattle.std.proofs.lemmas.Bool.{and_from, and_parts, le-leb, leb-true, lt-ltb, ltb-true}
use Rattle.refusals.specs.declared.Fault.{Fault}
use Rattle.sheetfile.specs.Steps.{and_then, prefixed, room_for}

pub ok_same : {A E : Type 0} (x y : A) → ◌≡◌ {A = Result A E} (Ok x) (Ok y) → x ≡ y
ok_same x y e = cc

pub err_not_ok : {A E X : Type 0} (e : E) (x : A) → ◌≡◌ {A = Result A E} (Err e) (Ok x) → X
err_not_ok e x is = absurd (let z : ◌≡◌ {A = ℕ} 0 1 = cc in omega arith)

pub followed : {A B : Type 0} (r : Result A Fault) (f : A → Result B Fault) (y : B) → and_then r f ≡ Ok y → (x : A) × (r ≡ Ok x) × (f x ≡ Ok y)
followed (Err e) f y is = err_not_ok e y is
followed (Ok x) f y is = (x, refl, is)

pub follows : {A B : Type 0} (r : Result A Fault) (f : A → Result B Fault) (x : A) (y : Result B Fault) → r ≡ Ok x → f x ≡ y → and_then r f ≡ y
follows r f x y is next = ap (λ q. and_then q f) is ∙ next

pub tested : {A : Type 0} (b : Bool) (r : Result A Fault) (e : Fault) (y : A) → cond b r (Err e) ≡ Ok y → (b ≡ true) × (r ≡ Ok y)
tested true r e y is = (refl, is)
tested false r e y is = err_not_ok e y is

pub tests : {A : Type 0} (b : Bool) (r q : Result A Fault) → b ≡ true → cond b r q ≡ r
tests b r q is = ap (λ t. cond t r q) is

pub fronts : {A : Type 0} (xs : List A) (r : Result (List A × ℕ) Fault) (y : List A × ℕ) → prefixed xs r ≡ Ok y → (z : List A × ℕ) × (r ≡ Ok z) × (y ≡ (xs ++ z.0, z.1))
fronts xs (Err e) y is = err_not_ok e y is
fronts xs (Ok (ys, at)) y is = ((ys, at), refl, sym (ok_same (xs ++ ys, at) y is))

pub between : (low n high : ℕ) → (leb low n && leb n high) ≡ true → (low ≤ n) × (n ≤ high)
between low n high is = let p = and_parts (leb low n) (leb n high) is in (leb-true low n p.0, leb-true n high p.1)

pub below : (low n high : ℕ) → (leb low n && ltb n high) ≡ true → (low ≤ n) × (n < high)
below low n high is = let p = and_parts (leb low n) (ltb n high) is in (leb-true low n p.0, ltb-true n high p.1)

pub from-between : (low n high : ℕ) → low ≤ n → n ≤ high → (leb low n && leb n high) ≡ true
from-between low n high a b = and_from (leb low n) (leb n high) (le-leb low n a) (le-leb n high b)

pub from_below : (low n high : ℕ) → low ≤ n → n < high → (leb low n && ltb n high) ≡ true
from_below low n high a b = and_from (leb low n) (ltb n high) (le-leb low n a) (lt-ltb n high b)

pub roomy : {A : Type 0} (e : Fault) (need room : ℕ) (x y : A) → room_for e need room x ≡ Ok y → (need ≤ room) × (x ≡ y)
roomy e need room x y is = let t = tested (leb need room) (Ok x) e y is in (leb-true need room t.0, ok_same x y t.1)

pub room_there : {A E : Type 0} (e : E) (need room : ℕ) (x : A) → need ≤ room → room_for e need room x ≡ Ok x
room_there e need room x fits = ap (λ t. cond t (Ok x) (Err e)) (le-leb need room fits)
