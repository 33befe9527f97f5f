-- What the calls of a run leave, where the books noted what the source means.
use Rattle.std.proofs.Common.{◌≡◌, ℕ, zero, suc, ◌+◌, ◌-◌, ◌<◌, ◌≤◌, Bool, true, false, cond, ◌&&◌, eqb, ltb, List, [], ◌∷◌, ◌++◌, length, get_or, take, Some, Ok, Err, IfOk, Option, Result, sym, refl, ap, ◌∙◌, subst, arith}
use Rattle.std.proofs.lemmas.List.{take_more, length-take-le}
use Rattle.std.proofs.lemmas.Bool.{and_parts, and_left, both_ways, eqb-true, ne_eqb, lt-ltb, cond-true}
use Rattle.sources.specs.Meaning.{Meaning, Sound, row_of}
use Rattle.sources.specs.Tables.{heading_of}
use Rattle.refusals.specs.declared.Refusal.{Refusal}
use Rattle.auction.specs.declared.bidding.Bid.{Bid}
use Rattle.auction.specs.declared.bidding.Counts.{Counts}
use Rattle.auction.specs.declared.bidding.Ending.{Ending}
use Rattle.auction.specs.declared.bidding.Ending.TheVariants.{Done, Spent}
use Rattle.auction.specs.declared.bidding.InFlight.{InFlight}
use Rattle.auction.specs.declared.bidding.Report.{Report}
use Rattle.auction.specs.declared.bidding.Standing.{Standing}
use Rattle.auction.specs.declared.bidding.Standing.TheVariants.{Waiting, Bidding}
use Rattle.auction.specs.Consistent.{Consistent}
use Rattle.auction.specs.Rules.{between}
use Rattle.auction.specs.Standings.{if_waiting, if_bidding}
use Rattle.auction.specs.Runs.{RunState, gathered, beginning, first_acts, step_by, one_step, many_steps, ending_of, since, report_of, run_report, Reports, run_answer, ran, run_tally}
use Rattle.auction.specs.InOrder.{Ordered, Grown}
use Rattle.auction.specs.MadeOf.{MadeOf}
use Rattle.auction.specs.Reached.{Reached}
use Rattle.sources.proofs.Reading.{row_length}
use Rattle.auction.proofs.Queues.{gathered_more, gathered_short}
use Rattle.auction.proofs.Steps.{room_enough, ending_is, begins_ordered, step_ordered, steps_grow, idle_steps, run_reports}
use Rattle.auction.proofs.MadeOf.{reached_made}
use Rattle.rings.specs.Held.{held}
use Rattle.hall.specs.declared.books.Books.{Books}
use Rattle.hall.specs.declared.books.queues.Queues.{Queues}
use Rattle.hall.specs.InBooks.{NotedOf, Between, tally_in, tally_of}
use Rattle.hall.specs.Obeys.{Obeys}
use Rattle.hall.specs.RunSteps.{state_of, StepMade}
use Rattle.hall.proofs.Tables.{consistent_in, renoted}

-- ---- a row has no more entries than there are jobs

pub few_entries : (m : Meaning) → Sound m → (b : Books) → NotedOf m b → (i : ℕ) → length (row_of m i) ≤ 256
few_entries m s b o i = omega (arith, row_length m s i, ap (λ h. h.jobs) o, (consistent_in b).limits.few_jobs)

-- ---- what holds of the books' tally by the source's numbers

consistent_for : (m : Meaning) (b : Books) → NotedOf m b → Consistent m.carriers m.jobs m.ceiling (tally_in b)
consistent_for m b o = renoted b.noted (heading_of m) (tally_in b) o (consistent_in b)

-- ---- a step, as the rings and the books hold it

same_state : (r q : RunState) → r.line ≡ q.line → r.flight ≡ q.flight → r.tally ≡ q.tally → r.steps ≡ q.steps → r ≡ q
same_state r q a b c d = λ i. record { line = a i; flight = b i; tally = c i; steps = d i }

-- A step takes the line's first or the flight's first. Between the two, q' are the queues without it.
module _ (m : Meaning) (depth : ℕ) (old new : Books) (q q' q'' : Queues) where
  pub step_summons : (i : ℕ) → true ≡ (ltb (length (held q.flight)) depth && ltb 0 (length (held q.line))) → held q.line ≡ i ∷ held q'.line → held q'.flight ≡ held q.flight →
      StepMade m (λ n. step_by m true (i ∷ held q'.line) (held q'.flight) (tally_in old) n) new q'' → StepMade m (λ n. one_step m depth (state_of old q n)) new q''
  unfolding one_step
  step_summons i test e f b = record {
    noted = b.noted;
    made = λ n. b.made n ∙ ap (λ z. step_by m true (i ∷ held q'.line) z (tally_in old) n) f
        ∙ sym (ap (λ z. step_by m z (held q.line) (held q.flight) (tally_in old) n) (and_parts (ltb (length (held q.flight)) depth) (ltb 0 (length (held q.line))) (sym test)).0
        ∙ ap (λ z. step_by m true z (held q.flight) (tally_in old) n) e);
  }

  pub step_first : (f : InFlight) → false ≡ (ltb (length (held q.flight)) depth && ltb 0 (length (held q.line))) → held q.flight ≡ f ∷ held q'.flight → held q'.line ≡ held q.line →
      StepMade m (λ n. first_acts m f.carrier f.looks_left (held q'.line) (held q'.flight) (tally_in old) n) new q'' → StepMade m (λ n. one_step m depth (state_of old q n)) new q''
  unfolding one_step
  step_first f test e l b = record {
    noted = b.noted;
    made = λ n. b.made n ∙ ap (λ z. first_acts m f.carrier f.looks_left z (held q'.flight) (tally_in old) n) l
        ∙ sym (ap (λ z. step_by m (ltb (length z) depth) (held q.line) z (tally_in old) n) e
        ∙ acts (held q.line) n (ltb (length (f ∷ held q'.flight)) depth) (ap (λ z. (ltb z depth && ltb 0 (length (held q.line)))) (sym (ap length e)) ∙ sym test));
  }
    where
      acts : (l : List ℕ) (n : ℕ) (s : Bool) → (s && ltb 0 (length l)) ≡ false →
          step_by m s l (f ∷ held q'.flight) (tally_in old) n ≡ first_acts m f.carrier f.looks_left l (held q'.flight) (tally_in old) n
      acts [] n true h = refl
      acts (i ∷ l) n true h = absurd (both_ways (ltb 0 (length (i ∷ l))) h (lt-ltb 0 (length (i ∷ l)) (omega arith)))
      acts l n false h = refl

-- Line and flight fit their places.
pub few_held : (m : Meaning) (b : Books) (q : Queues) → Ordered m (state_of b q 0) → length (held q.line) + length (held q.flight) ≤ 128
few_held m b q r = omega (arith, room_enough m (state_of b q 0) r, (consistent_in b).standings_sized, (consistent_in b).limits.few_carriers)

-- ---- gathering who waits and who bids

pub few_standings : (b : Books) → length (take b.noted.carriers b.standings) ≤ 128
few_standings b = omega (arith, (consistent_in b).standings_sized, (consistent_in b).limits.few_carriers)

module _ {X : Type 0} (f : ℕ → Standing → List X) (ss : List Standing) (i : ℕ) (l : i < length ss) where
  pub gathered_few : ((i : ℕ) (s : Standing) → length (f i s) ≤ 1) → length ss ≤ 128 → length (gathered f 0 (take i ss)) < 128
  gathered_few few n = omega (arith, gathered_short f few 0 (take i ss), length-take-le i ss (omega arith))

  pub gathered_on : (s : Standing) (xs ys : List X) → get_or ss i Waiting ≡ s → xs ≡ gathered f 0 (take i ss) → ys ≡ xs ++ f i s → ys ≡ gathered f 0 (take (i + 1) ss)
  gathered_on s xs ys e before after =
      after ∙ ap (λ z. z ++ f i s) before
      ∙ sym (ap (gathered f 0) (take_more ss i Waiting l) ∙ gathered_more f 0 (take i ss) (get_or ss i Waiting)
      ∙ ap (λ n. gathered f 0 (take i ss) ++ f n (get_or ss i Waiting)) (omega (arith, length-take-le i ss (omega arith)))
      ∙ ap (λ z. gathered f 0 (take i ss) ++ f i z) e)

pub one_waits : (i : ℕ) (s : Standing) → length (if_waiting i s) ≤ 1
one_waits i Waiting = omega arith
one_waits i _ = omega arith

pub one-bids : (m : Meaning) (lanes i : ℕ) (s : Standing) → length (if_bidding m lanes i s) ≤ 1
one-bids m lanes i (Bidding b) = omega arith
one-bids m lanes i _ = omega arith

-- Who does not wait is not in line, and who does not bid is not in flight.
pub none_waits : (i : ℕ) (s : Standing) → (s ≡ Waiting → ⊥) → if_waiting i s ≡ []
none_waits i Waiting n = absurd (n refl)
none_waits i _ n = refl

pub none-bids : (m : Meaning) (lanes i : ℕ) (s : Standing) → ((b : Bid) → s ≡ Bidding b → ⊥) → if_bidding m lanes i s ≡ []
none-bids m lanes i (Bidding b) n = absurd (n b refl)
none-bids m lanes i _ n = refl

-- ---- many steps

module _ (m : Meaning) (depth : ℕ) (old new : Books) (q q' : Queues) (b : StepMade m (λ n. one_step m depth (state_of old q n)) new q') where
  pub steps_on : (budget k : ℕ) (last : RunState) → k < budget → many_steps m depth (budget - k) (state_of old q k) ≡ last →
      many_steps m depth (budget - (k + 1)) (state_of new q' (k + 1)) ≡ last
  unfolding many_steps
  steps_on budget k last l h =
      let n : suc (budget - (k + 1)) ≡ budget - k = omega arith in
      ap (many_steps m depth (budget - (k + 1))) (b.made k) ∙ ap (λ z. many_steps m depth z (state_of old q k)) n ∙ h

  pub ordered_on : NotedOf m old → Ordered m (state_of old q 0) → Ordered m (state_of new q' 0)
  ordered_on o r = subst (Ordered m) (sym (b.made 0)) (step_ordered m depth (state_of old q 0) (consistent_for m old o) r)

pub no_steps : (m : Meaning) (depth n : ℕ) (r : RunState) → n ≡ 0 → many_steps m depth n r ≡ r
unfolding many_steps
no_steps m depth n r e = ap (λ z. many_steps m depth z r) e

both_none : (a b : ℕ) → (eqb a 0 && eqb b 0) ≡ eqb (a + b) 0
both_none zero zero = refl
both_none zero (suc b) = ap (λ n. eqb n 0) (omega arith)
both_none (suc a) b = and_left (eqb (suc a) 0) (eqb b 0) (ne_eqb (suc a) 0 (λ e. omega (arith, e))) ∙ sym (ne_eqb (suc a + b) 0 (λ e. omega (arith, e)))

pub idle_state : (m : Meaning) (depth n steps : ℕ) (b : Books) (q : Queues) → (eqb (length (held q.line)) 0 && eqb (length (held q.flight)) 0) ≡ true →
    many_steps m depth n (state_of b q steps) ≡ state_of b q steps
idle_state m depth n steps b q e =
    idle_steps m depth n (held q.line) (held q.flight) (tally_in b) steps
    (let z = eqb-true (length (held q.line) + length (held q.flight)) 0 (sym (both_none (length (held q.line)) (length (held q.flight))) ∙ e) in omega (arith, z))

-- ---- the state that a run begins with

pub same_start : (m : Meaning) (b : Books) (q : Queues) → held q.line ≡ gathered if_waiting 0 (tally_in b).standings → held q.flight ≡ gathered (if_bidding m b.lanes) 0 (tally_in b).standings →
    state_of b q 0 ≡ beginning m (tally_in b)
unfolding beginning
same_start m b q e f = same_state (state_of b q 0) _ e f refl refl

pub start_ordered : (m : Meaning) (b : Books) (q : Queues) → state_of b q 0 ≡ beginning m (tally_in b) → Ordered m (state_of b q 0)
start_ordered m b q e = subst (Ordered m) (sym e) (begins_ordered m (tally_in b))

ending_told : (m : Meaning) (b : Books) (q : Queues) → Ordered m (state_of b q 0) → (e : Ending) →
    e ≡ cond (eqb (length (held q.line)) 0 && eqb (length (held q.flight)) 0) Done Spent → e ≡ ending_of (tally_in b)
ending_told m b q r e is-end = is-end ∙ ap (λ z. cond z Done Spent) (both_none (length (held q.line)) (length (held q.flight))) ∙ sym (ending_is m (state_of b q 0) r)

-- ---- the run

module _ (m : Meaning) (sound : Sound m) (depth budget : ℕ) (old new : Books) (q : Queues) (steps : ℕ) (in' : between 1 128 depth ≡ true) (was : NotedOf m old)
    (made : state_of new q steps ≡ many_steps m depth budget (beginning m (tally_in old))) (order : Ordered m (state_of new q 0))
    (e : Ending) (is-end : e ≡ cond (eqb (length (held q.line)) 0 && eqb (length (held q.flight)) 0) Done Spent) (counts : Counts) (made-counts : counts ≡ since old.counts new.counts) where
  abbrev report : Report
  report = record { steps = steps; counts = counts; ending = e }

  report_is : report ≡ run_report (tally_in old) (many_steps m depth budget (beginning m (tally_in old)))
  report_is = ap (λ z. record { steps = steps; counts = z; ending = e }) made-counts ∙ ap (report_of old.counts new.counts steps) (ending_told m new q order e is-end) ∙ ap (run_report (tally_in old)) made

  pub run_ruled : Obeys (run_answer depth budget) (run_tally depth budget) m (Some old) (Some new) (Ok report)
  unfolding ran
  run_ruled = record {
    answered = ap Ok report_is ∙ sym (cond-true {A = Result Report Refusal} (between 1 128 depth) _ _ in');
    tallied = ap (λ r. Some r.tally) made ∙ sym (ap Some (cond-true (between 1 128 depth) _ _ in'));
    refused = λ h. absurd (both_ways true h refl);
  }

  pub run_reported : 1 ≤ depth → Reports budget (tally_in old) (tally_in new) report
  unfolding beginning
  run_reported deep =
      subst (Reports budget (tally_in old) (tally_in new)) (sym report_is)
      (subst (λ z. Reports budget (tally_in old) z.tally (run_report (tally_in old) (many_steps m depth budget (beginning m (tally_in old))))) (sym made)
      (run_reports m sound depth deep budget (beginning m (tally_in old)) refl (consistent_for m old was) (begins_ordered m (tally_in old))))

-- From books that calls lead to, an accepted run is made of summonses, looks and settles.
pub run_is_made : (m : Meaning) → Sound m → (depth budget : ℕ) (o : Option Books) (old new : Books) (r : Result Report Refusal) → o ≡ Some old → Reached m (tally_of o) →
    Obeys (run_answer depth budget) (run_tally depth budget) m (Some old) (Some new) r → IfOk r (λ p. Between (λ t u. MadeOf m depth t u p) o (Some new))
run_is_made m sound depth budget o old new (Ok p) found reached ruled = record {
  before = tally_in old;
  after = tally_in new;
  was = ap tally_of found;
  is = refl;
  holds = reached_made m sound depth budget (tally_in old) (tally_in new) p (subst (λ z. Reached m (tally_of z)) found reached) (sym ruled.answered) (sym ruled.tallied);
}
run_is_made m sound depth budget o old new (Err e) found reached ruled = tt

-- No count has fallen.
pub run_grown : (m : Meaning) (depth budget : ℕ) (old new : Books) (q q' : Queues) (steps : ℕ) →
    state_of new q' steps ≡ many_steps m depth budget (state_of old q 0) → Grown old.counts new.counts
run_grown m depth budget old new q q' steps made =
    subst (λ z. Grown old.counts z.tally.counts) (sym made) (steps_grow m depth budget (state_of old q 0))
