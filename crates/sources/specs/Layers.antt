-- What a layer makes of the meaning below it: the same carriers, jobs and row lengths, and other worths.
use Rattle.std.specs.Prelude.{◌≡◌, ℕ, ◌*◌, min, cond, List, map, nat_lt}
use Rattle.std.specs.Option.{option_map}
use Rattle.sources.specs.Limits.{highest_worth}
use Rattle.sources.specs.Meaning.{Meaning, row_len, entry_at}

-- An entry whose worth is passed through h.
abbrev pub revalued_entry : (ℕ → ℕ) → ℕ × ℕ → ℕ × ℕ
revalued_entry h e = (e.0, h e.1)

-- A row with each worth passed through h.
abbrev pub revalued_row : (ℕ → ℕ) → List (ℕ × ℕ) → List (ℕ × ℕ)
revalued_row h row = map (revalued_entry h) row

-- Each worth passed through h, under the ceiling c: what every layer is.
abbrev pub revalued : (ℕ → ℕ) → ℕ → Meaning → Meaning
revalued h c m = record {
  carriers = m.carriers;
  jobs = m.jobs;
  ceiling = c;
  rows = map (revalued_row h) m.rows;
}

-- Floor f: a worth below f becomes 0.
abbrev pub floored : ℕ → ℕ → ℕ
floored f w = cond (nat_lt w f) 0 w

-- The ceiling stays.
abbrev pub floor_of : ℕ → Meaning → Meaning
floor_of f m = revalued (floored f) m.ceiling m

-- Times g: a worth w becomes g * w, or the highest worth if that is smaller.
abbrev pub scaled : ℕ → ℕ → ℕ
scaled g w = min (g * w) highest_worth

-- The ceiling likewise.
abbrev pub times_of : ℕ → Meaning → Meaning
times_of g m = revalued (scaled g) (scaled g m.ceiling) m

-- What a times layer g over a floor layer f is: the same carriers, jobs and row lengths, each worth passed through the
-- floor and then through the factor, and the ceiling through the factor.
pub record FloorThenTimes (f g : ℕ) (below piled : Meaning) : Type 0 where
  pub carriers : piled.carriers ≡ below.carriers
  pub jobs : piled.jobs ≡ below.jobs
  pub ceiling : piled.ceiling ≡ scaled g below.ceiling
  pub lengths : (i : ℕ) → row_len piled i ≡ row_len below i
  pub entries : (i k : ℕ) → entry_at piled i k ≡ option_map (λ e. (e.0, scaled g (floored f e.1))) (entry_at below i k)
