-- The two calls: what they answer, what they lead to, and that the pairing is then worth most.
use Rattle.std.proofs.Common.{◌≡◌, ℕ, ◌+◌, ◌*◌, ◌^◌, ◌<◌, ◌≤◌, min, Bool, true, false, cond, leb, ltb, eqb, ◌&&◌, ◌≢◌, List, [], ◌∷◌, length, get_or, set, Some, None, Ok, Err, Option, Result, sym, refl, ap, ◌∙◌, subst, ⊎_elim, mul-zero, arith, below_more, w8, Fits}
use Rattle.std.proofs.ByRecursion.{All-get_or}
use Rattle.std.proofs.lemmas.List.{ext_get_or, get_or_past, get_or-set_other, get_or-set_same, length-map}
use Rattle.std.proofs.lemmas.Bool.{and_parts, cases_lt, cond_both, cond-true, leb-true, lt-ltb}
use Rattle.std.proofs.lemmas.Nat.{mul-le}
use Rattle.std.proofs.Math.Nat.{min-eq_left, min-eq_right, mul_comm}
use Rattle.std.specs.Option.{option_map}
use Rattle.std.specs.List.{AllByRecursion}
use Rattle.std.specs.Prelude.{OnOk}
use Rattle.refusals.specs.declared.Fault.{Fault}
use Rattle.refusals.specs.declared.Refusal.{Refusal}
use Rattle.refusals.specs.declared.Refusal.TheVariants.{CountsOutside, NoSuchCarrier}
use Rattle.sources.specs.Meaning.{Meaning, Sound, row_of, worth_in, worth_of}
use Rattle.sources.specs.Tables.{heading_of}
use Rattle.sources.proofs.Reading.{row_within}
use Rattle.sources.specs.Laws.LayersSound.{times_sound}
use Rattle.sources.specs.Layers.{scaled, times_of}
use Rattle.sources.proofs.Worths.{worth_times}
use Rattle.auction.specs.declared.calls.Answer.{Answer}
use Rattle.auction.specs.declared.bidding.Bid.{Bid}
use Rattle.auction.specs.declared.bidding.Counts.{Counts}
use Rattle.auction.specs.declared.bidding.Standing.{Standing}
use Rattle.auction.specs.declared.bidding.Standing.TheVariants.{Out}
use Rattle.auction.specs.declared.bidding.Verdict.{Verdict}
use Rattle.auction.specs.declared.bidding.Verdict.TheVariants.{Out as GoesOut, Stale, Awarded}
use Rattle.auction.specs.Standings.{ServedOrOut, job_served}
use Rattle.auction.specs.Tally.{Tally, standing_at}
use Rattle.auction.specs.Bids.{best_worth}
use Rattle.auction.specs.Rules.{between, bid_at, bids, carried_out, ended, tally_at_start, start_answer, start_tally_by, if_accepted, verdict_in}
use Rattle.auction.specs.declared.bidding.Act.TheVariants.{Settle}
use Rattle.auction.specs.Runs.{beginning, ran}
use Rattle.auction.specs.Calls.{accepted, answer_to, counts_answer, standing_answer, tally_after, tally_by, tally_from, as_answer}
use Rattle.auction.specs.Laws.{AuctionLaws}
use Rattle.auction.proofs.Steps.{steps_hold}
use Rattle.auction.proofs.Reaching.{reached_laws}
use Rattle.hall.specs.declared.books.Books.{Books}
use Rattle.hall.specs.InBooks.{tally_of}
use Rattle.hall.specs.Replayed.{Performed, Replayed}
use Rattle.pairing.specs.Held.{HeldUnderTimes}
use Rattle.pairing.specs.Listing.{listing}
use Rattle.sheetfile.specs.Reading.{loaded_within}
use Rattle.sheetfile.proofs.Filling.{within_file}
use Rattle.sheetfile.proofs.Steps.{ok_same}
use Rattle.pairing.specs.Pairs.{Ends, ListsFile, ListsPairs, PairsWell, auctioned, listed, listed_after, listing_after, timed, two_calls}

-- ---- the step stays

if_accepted_step : (n : ℕ) (f : Bid → Tally → Tally) (t : Tally) → ((b : Bid) → (f b t).step ≡ n) → t.step ≡ n → (r : Result Bid Refusal) → (if_accepted r f t).step ≡ n
if_accepted_step n f t h e (Ok b) = h b
if_accepted_step n f t h e (Err x) = e

out_step : (i w : ℕ) (v : Verdict) (t : Tally) → (carried_out i w v t).step ≡ t.step
out_step i w GoesOut t = refl
out_step i w Stale t = refl
out_step i w (Awarded a) t = refl

ran_step : (m : Meaning) (n depth budget : ℕ) (t : Tally) → t.step ≡ n → (ran m depth budget t).step ≡ n
unfolding ran beginning
ran_step m n depth budget t e =
    cond_both {A = Tally} (between 1 128 depth) _ _ (λ u. u.step ≡ n)
    (λ _. steps_hold m (λ u. u.step ≡ n) (λ u i act h. if_accepted_step n (bids act i) u (λ b. h) h (bid_at m i act u)) (λ u i h. if_accepted_step n (ended i) u (λ b. out_step i (best_worth b.best) (verdict_in u b) u ∙ h) h (bid_at m i Settle u)) depth budget (beginning m t) e)
    (λ _. e)

at_start_step : (carriers jobs step lanes : ℕ) → (tally_at_start carriers jobs step lanes).step ≡ step
unfolding tally_at_start
at_start_step carriers jobs step lanes = refl

-- ---- the start is refused only because of the counts

abbrev start_by : Bool → Result (Unit {0}) Refusal
start_by b = cond b (Ok tt) (Err CountsOutside)

start_is : (m : Meaning) → (b : Bool) × (start_answer 1 8 m ≡ start_by b)
start_is m = (_, refl)

-- The start's answer, whatever it depends on, and what follows from it.
module _ (f : Tally → Tally) (new : Tally) where
  refused_none : (b : Bool) (r : Result (Unit {0}) Refusal) (e : Refusal) → r ≡ start_by b → as_answer accepted r ≡ Err e → (e ≡ CountsOutside) × (option_map f (start_tally_by r new None) ≡ None)
  refused_none true (Ok x) e by is = absurd (let z : ◌≡◌ {A = ℕ} 0 1 = cc in omega arith)
  refused_none true (Err d) e by is = absurd (let z : ◌≡◌ {A = ℕ} 0 1 = cc in omega arith)
  refused_none false (Ok x) e by is = absurd (let z : ◌≡◌ {A = ℕ} 0 1 = cc in omega arith)
  refused_none false (Err d) e by is = (cc, refl)

  accepted_some : (r : Result (Unit {0}) Refusal) (a : Answer) → as_answer accepted r ≡ Ok a → (t : Tally) × (option_map f (start_tally_by r new None) ≡ Some t)
  accepted_some (Ok x) a is = (f new, refl)
  accepted_some (Err e) a is = absurd (let z : ◌≡◌ {A = ℕ} 0 1 = cc in omega arith)

  some_step : (r : Result (Unit {0}) Refusal) (t : Tally) → (f new).step ≡ 1 → option_map f (start_tally_by r new None) ≡ Some t → t.step ≡ 1
  some_step (Ok x) t h e = let same : f new ≡ t = cc in sym (ap (λ (u : Tally). u.step) same) ∙ h
  some_step (Err d) t h e = absurd (let z : ◌≡◌ {A = ℕ} 0 1 = cc in omega arith)

-- the tally that the start makes, and the run on it
abbrev begun : Meaning → Tally
begun m = tally_at_start m.carriers m.jobs 1 8

abbrev running : Meaning → Tally → Tally
running m = ran (timed m) 8 1000000

auction_is : (m : Meaning) → auctioned m ≡ option_map (running m) (start_tally_by (start_answer 1 8 (timed m)) (begun m) None)
unfolding auctioned tally_from tally_by
auction_is m = refl

-- a start that was not refused found the ceiling within the limits
not_refused : (f : Tally → Tally) (new t : Tally) (b : Bool) (r : Result (Unit {0}) Refusal) → r ≡ start_by b → option_map f (start_tally_by r new None) ≡ Some t → b ≡ true
not_refused f new t true r by is = refl
not_refused f new t false (Ok x) by is = absurd (let z : ◌≡◌ {A = ℕ} 0 1 = cc in omega arith)
not_refused f new t false (Err e) by is = absurd (let z : ◌≡◌ {A = ℕ} 0 1 = cc in omega arith)

ceiling_low : (m : Meaning) (t : Tally) → auctioned m ≡ Some t → (timed m).ceiling ≤ 2 ^ 36
unfolding start_is
ceiling_low m t e =
    let h = heading_of (timed m) in
    let b = not_refused (running m) (begun m) t (start_is (timed m)).0 (start_answer 1 8 (timed m)) (start_is (timed m)).1 (sym (auction_is m) ∙ e) in
    let p = and_parts (leb 1 h.carriers && leb h.carriers 128) ((leb 1 h.jobs && leb h.jobs 256) && leb h.ceiling (2 ^ 36)) b in
    let q = and_parts (leb 1 h.jobs && leb h.jobs 256) (leb h.ceiling (2 ^ 36)) p.1 in
    leb-true h.ceiling (2 ^ 36) q.1

-- no worth is above the ceiling
worth_within : (c : ℕ) (row : List (ℕ × ℕ)) (j : ℕ) → AllByRecursion (λ e. e.1 ≤ c) row → worth_in row j ≤ c
worth_within c [] j all = omega arith
worth_within c (e ∷ row) j all = cond_both (eqb e.0 j) e.1 (worth_in row j) (λ w. w ≤ c) (λ _. all.0) (λ _. worth_within c row j all.1)

-- so no worth is capped
not_capped : (g w c : ℕ) → w ≤ c → scaled g c ≤ 2 ^ 36 → scaled g w ≡ w * g
not_capped g w c l low =
    let some : g * c ≤ 2 ^ 36 = ⊎_elim
    (λ (h : g * c < 2 ^ 60). let e = min-eq_left {n = g * c} {m = 2 ^ 60} (omega arith) in omega (arith, e))
    (λ (h : 2 ^ 60 ≤ g * c). let e = min-eq_right {n = 2 ^ 60} {m = g * c} h in absurd (omega (arith, e)))
    (cases_lt (g * c) (2 ^ 60)) in
    let below = mul-le g w g c (omega arith) l in
    let e = min-eq_left {n = g * w} {m = 2 ^ 60} (omega (arith, below, some)) in
    e ∙ mul_comm g w

-- what is worth something under a factor is so below it
times_some : (g w : ℕ) → 0 < scaled g w → 0 < w
times_some g w some =
    ⊎_elim (λ h. h)
    (λ none. let z : w ≡ 0 = omega arith in let e : scaled g 0 ≡ 0 = ap (λ k. min k (2 ^ 60)) (mul-zero g) in absurd (omega (arith, ap (scaled g) z, e, some)))
    (cases_lt 0 w)

-- ---- what the two calls lead to

auction_laws : (m : Meaning) → Sound m → (t : Tally) → auctioned m ≡ Some t → AuctionLaws (timed m) t
unfolding auctioned
auction_laws m sound t e = reached_laws (timed m) (times_sound (m.carriers + 1) m sound) (auctioned m) ∣ (two_calls, refl) ∣₁ t e

pairs_well : (m : Meaning) → Sound m → PairsWell m
pairs_well m sound t e =
    let law = auction_laws m sound t e in
    let one : t.step ≡ 1 = some_step (running m) (begun m) (start_answer 1 8 (timed m)) t (ran_step (timed m) 1 8 1000000 (begun m) (at_start_step m.carriers m.jobs 1 8)) (sym (auction_is m) ∙ e) in
    let above : m.carriers * t.step < m.carriers + 1 = rw one (omega arith) in
    record {
      own = record {
        sized = law.own.sized;
        worthy = λ i j at. times_some (m.carriers + 1) (worth_of m i j) (subst (λ w. 0 < w) (worth_times (m.carriers + 1) m i j) (law.own.worthy i j at));
        apart = law.own.apart;
      };
      best = law.exact m (m.carriers + 1) refl above;
      best_of_all = λ all p pairing. law.exact m (m.carriers + 1) refl above p pairing
          (λ i j _. ⊎_elim (λ inside. All-get_or ServedOrOut t.standings i Out inside all) (λ past. subst ServedOrOut (sym (get_or_past t.standings i Out past)) tt) (cases_lt i (length t.standings)));
    }

-- what served carriers are told is the sheet's worth, times (carriers + 1)
held_timed : (m : Meaning) → Sound m → (t : Tally) → auctioned m ≡ Some t → HeldUnderTimes m t.standings
held_timed m sound t e i h at =
    let law = auction_laws m sound t e in
    (law.slack i h at).worth_is ∙ worth_times (m.carriers + 1) m i h.job
    ∙ not_capped (m.carriers + 1) (worth_of m i h.job) m.ceiling (worth_within m.ceiling (row_of m i) h.job (row_within m sound i)) (ceiling_low m t e)
    ∙ ap (λ k. worth_of m i h.job * (k + 1)) (sym law.own.sized ∙ length-map t.standings job_served)

pub ends_timed : (m : Meaning) → Sound m → (r : Result Counts Refusal) (ss : List Standing) → Ends (auctioned m) r ss → OnOk r (HeldUnderTimes m ss)
ends_timed m sound r ss ends = go (auctioned m) refl ends
  where
    go : (o : Option Tally) → auctioned m ≡ o → Ends o r ss → OnOk r (HeldUnderTimes m ss)
    go None e h = subst (λ x. OnOk x (HeldUnderTimes m ss)) (sym h) tt
    go (Some t) e h = subst (λ x. OnOk x (HeldUnderTimes m ss)) (sym h.0) (subst (HeldUnderTimes m) (sym h.1) (held_timed m sound t e))

-- a listing is that of the tally that the auction ends with
lists_pairs : (m : Meaning) → Sound m → (text : List ℕ) → (o : Option Tally) → auctioned m ≡ o → listing_after m o ≡ Ok text → ListsPairs m text
lists_pairs m sound text None e is = let z : ◌≡◌ {A = ℕ} 0 1 = cc in absurd (omega arith)
lists_pairs m sound text (Some t) e is = record {
  tally = t;
  ended = e;
  told = sym (ok_same (listing m t.standings t.counts) text is);
  paired = pairs_well m sound t e;
}

pub lists_file : (bs : List ℕ) → ((i : ℕ) → Fits w8 (get_or bs i 0)) → (text : List ℕ) → listed bs ≡ Ok text → ListsFile bs text
lists_file bs typed text is = go (loaded_within bs) refl is
  where
    go : (r : Result Meaning Fault) → loaded_within bs ≡ r → listed_after r ≡ Ok text → ListsFile bs text
    go (Err f) e is = let z : ◌≡◌ {A = ℕ} 0 1 = cc in absurd (omega arith)
    go (Ok m) e is = let file = within_file bs typed m e in (m, file, lists_pairs m file.bounded.sound text (auctioned m) refl is)

-- ---- what the two calls on a new hall show

-- A hall that was made over a source owns it, and has no tally.
pub as_new : {S : Type 0} (mean : S → Meaning) (s s' : S) (o : Option Tally) (before after : List (Result Answer Refusal)) (b : Option Books) → s' ≡ s → o ≡ None →
    Performed (mean s') two_calls before after o (tally_of b) → Replayed (mean s) two_calls before after b
as_new mean s s' o before after b same none p =
    subst (λ z. Performed (mean z) two_calls before after None (tally_of b)) same (subst (λ z. Performed (mean s') two_calls before after z (tally_of b)) none p)

module _ (m : Meaning) (sound : Sound m) (n : ℕ) (is : n ≡ m.carriers) (before after : List (Result Answer Refusal)) (b : Option Books) (r : Replayed (times_of (n + 1) m) two_calls before after b) where
  pub tally_is : tally_of b ≡ auctioned m
  unfolding auctioned
  tally_is = r.tallied ∙ ap (λ k. tally_after (times_of (k + 1) m) two_calls) is

  first_is : (d : Result Answer Refusal) → get_or after 0 d ≡ as_answer accepted (start_answer 1 8 (timed m))
  unfolding answer_to
  first_is d = ap (λ (answers : List (Result Answer Refusal)). get_or answers 0 d) r.answered ∙ ap (λ k. as_answer accepted (start_answer 1 8 (times_of (k + 1) m))) is

  pub standings_long : (t : Tally) → auctioned m ≡ Some t → length t.standings ≡ n
  standings_long t e = sym (length-map t.standings job_served) ∙ (auction_laws m sound t e).own.sized ∙ sym is

  pub ends_refused : (e : Refusal) (d : Result Answer Refusal) (ss : List Standing) → get_or after 0 d ≡ Err e → Ends (auctioned m) (Err e) ss
  ends_refused e d ss first =
      let w = refused_none (running m) (begun m) (start_is (timed m)).0 (start_answer 1 8 (timed m)) e (start_is (timed m)).1 (sym (first_is d) ∙ first) in
      subst (λ o. Ends o (Err e) ss) (sym (auction_is m ∙ w.1)) (ap Err w.0)

  -- the standing of a carrier, as the hall tells it
  pub standing_told : (t : Tally) → auctioned m ≡ Some t → (i : ℕ) → i < n → standing_answer i (times_of (n + 1) m) (tally_of b) ≡ Ok (standing_at t i)
  standing_told t e i inside =
      ap (standing_answer i (times_of (n + 1) m)) (tally_is ∙ e) ∙ cond-true (ltb i m.carriers) (Ok (standing_at t i)) (Err NoSuchCarrier) (lt-ltb i m.carriers (omega (arith, is)))

  pub ends_well : (d : Result Answer Refusal) (a : Answer) (c : Result Counts Refusal) (ss : List Standing) → get_or after 0 d ≡ Ok a → c ≡ counts_answer (times_of (n + 1) m) (tally_of b) →
      length ss ≡ n → ((t : Tally) → auctioned m ≡ Some t → (k : ℕ) → k < n → get_or ss k Out ≡ standing_at t k) → Ends (auctioned m) c ss
  ends_well d a c ss first counted long each =
      let w = accepted_some (running m) (begun m) (start_answer 1 8 (timed m)) a (sym (first_is d) ∙ first) in
      let t = w.0 in
      let some : auctioned m ≡ Some w.0 = auction_is m ∙ w.1 in
      subst (λ o. Ends o c ss) (sym some) (
        counted ∙ ap (counts_answer (times_of (n + 1) m)) (tally_is ∙ some),
        ext_get_or Out ss t.standings (long ∙ sym (standings_long t some)) (λ k inside. each t some k (omega (arith, long))),
      )

-- one standing more is noted
pub noted_more : (ss : List Standing) (i : ℕ) (s : Standing) (f : ℕ → Standing) → i < length ss → s ≡ f i → ((k : ℕ) → k < i → get_or ss k Out ≡ f k) → (k : ℕ) → k < i + 1 → get_or (set ss i s) k Out ≡ f k
noted_more ss i s f inside is each =
    below_more _ _ (λ k h. let ne : k ≢ i = omega arith in get_or-set_other ss i k s Out ne ∙ each k h) (get_or-set_same ss i s Out inside ∙ is)
