-- The steps of the loop that draws rows, and the grid that they make.
use Rattle.std.proofs.Common.{◌≡◌, ℕ, ◌+◌, ◌<◌, ltb, List, [], ◌∷◌, ◌++◌, length, get_or, take, set, ⊎_elim, add-one, sym, ap, ◌∙◌, subst, arith}
use Rattle.std.proofs.lemmas.Bool.{cases_eq}
use Rattle.std.proofs.lemmas.List.{get_or-set_other, get_or-set_same, take_all, take_more_set}
use Rattle.grids.specs.Xorshift.{drawn, next}
use Rattle.grids.specs.declared.Grid.{Grid}
use Rattle.grids.specs.Drawn.{grid_drawn, row_drawn, rows_drawn}

-- what holds of each row holds of each after one more is written
pub each_set : (P : ℕ → List ℕ → Type 0) (rows : List (List ℕ)) (k : ℕ) (row : List ℕ) → k < length rows → P k row → ((i : ℕ) → P i (get_or rows i [])) → (i : ℕ) → P i (get_or (set rows k row) i [])
each_set P rows k row inside new old i =
    ⊎_elim
    (λ same. subst (λ n. P n (get_or (set rows k row) n [])) (sym same) (subst (P k) (sym (get_or-set_same rows k row [] inside)) new))
    (λ other. subst (P i) (sym (get_or-set_other rows k i row [] other)) (old i))
    (cases_eq i k)

-- one row more is drawn
pub rows_more : (rows : List (List ℕ)) (k carriers jobs ceiling first s s' : ℕ) (row : List ℕ) → k < length rows → take k rows ≡ (rows_drawn k carriers jobs ceiling first).0 → s ≡ (rows_drawn k carriers jobs ceiling first).1
    → row ≡ (row_drawn (ltb k carriers) jobs ceiling s).0 → s' ≡ (row_drawn (ltb k carriers) jobs ceiling s).1
    → (take (k + 1) (set rows k row) ≡ (rows_drawn (k + 1) carriers jobs ceiling first).0) × (s' ≡ (rows_drawn (k + 1) carriers jobs ceiling first).1)
rows_more rows k carriers jobs ceiling first s s' row inside before state is after = (
  take_more_set rows k row inside ∙ ap (λ l. l ++ row ∷ []) before
      ∙ ap (λ r. (rows_drawn k carriers jobs ceiling first).0 ++ r ∷ []) (is ∙ ap (λ z. (row_drawn (ltb k carriers) jobs ceiling z).0) state)
      ∙ ap (λ n. (rows_drawn n carriers jobs ceiling first).0) (sym (add-one k)),
  after ∙ ap (λ z. (row_drawn (ltb k carriers) jobs ceiling z).1) state ∙ ap (λ n. (rows_drawn n carriers jobs ceiling first).1) (sym (add-one k)),
)

-- the whole grid
pub grid_is : (most s a b c carriers jobs ceiling n end : ℕ) (rows : List (List ℕ)) → a ≡ next s → b ≡ next a → c ≡ next b → carriers ≡ drawn 4 a → jobs ≡ drawn 4 b → ceiling ≡ drawn most c → n ≡ 4 → length rows ≡ 4
    → take n rows ≡ (rows_drawn n (1 + carriers) (1 + jobs) (1 + ceiling) c).0 → end ≡ (rows_drawn n (1 + carriers) (1 + jobs) (1 + ceiling) c).1
    → ◌≡◌ {A = Grid × ℕ} (record { carriers = 1 + carriers; jobs = 1 + jobs; ceiling = 1 + ceiling; worths = rows }, end) (grid_drawn most s)
unfolding grid_drawn
grid_is most s a b c carriers jobs ceiling n end rows ea eb ec en ej ew all long is last =
    let b' : b ≡ next (next s) = eb ∙ ap next ea in
    let c' : c ≡ next (next (next s)) = ec ∙ ap next b' in
    let n' : carriers ≡ drawn 4 (next s) = en ∙ ap (drawn 4) ea in
    let j : jobs ≡ drawn 4 (next (next s)) = ej ∙ ap (drawn 4) b' in
    let w : ceiling ≡ drawn most (next (next (next s))) = ew ∙ ap (drawn most) c' in
    let rows' : rows ≡ (rows_drawn n (1 + carriers) (1 + jobs) (1 + ceiling) c).0 = sym (take_all n rows (omega (arith, all, long))) ∙ is in
    let told : ◌≡◌ {A = Grid × ℕ} (record { carriers = 1 + carriers; jobs = 1 + jobs; ceiling = 1 + ceiling; worths = rows }, end)
    (record { carriers = 1 + carriers; jobs = 1 + jobs; ceiling = 1 + ceiling; worths = (rows_drawn n (1 + carriers) (1 + jobs) (1 + ceiling) c).0 }, (rows_drawn n (1 + carriers) (1 + jobs) (1 + ceiling) c).1) =
    λ i. (record { carriers = 1 + carriers; jobs = 1 + jobs; ceiling = 1 + ceiling; worths = rows' i }, last i) in
    told ∙ (λ i. let r = rows_drawn (all i) (1 + n' i) (1 + j i) (1 + w i) (c' i) in (record { carriers = 1 + n' i; jobs = 1 + j i; ceiling = 1 + w i; worths = r.0 }, r.1))
