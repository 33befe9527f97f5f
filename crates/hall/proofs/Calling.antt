-- A call on a carrier: what is answered, and the tally after it.
use Rattle.std.proofs.Common.{◌≡◌, ℕ, ◌<◌, false, ltb, get_or, take, set, is_ok, Ok, Err, Result, sym, refl, ap, ◌∙◌, ⊎_elim, arith}
use Rattle.std.proofs.lemmas.List.{set-get_or, length-set}
use Rattle.std.proofs.lemmas.Bool.{ltb-true, lt-ltb, cond-true, cond-false, cases_Bool}
use Rattle.sources.specs.Meaning.{Meaning, Sound, row_of}
use Rattle.sources.specs.Tables.{heading_of}
use Rattle.refusals.specs.declared.Refusal.{Refusal}
use Rattle.refusals.specs.declared.Refusal.TheVariants.{NoSuchCarrier}
use Rattle.auction.specs.declared.bidding.Bid.{Bid}
use Rattle.auction.specs.declared.bidding.Counts.{Counts}
use Rattle.auction.specs.declared.bidding.Act.{Act}
use Rattle.auction.specs.declared.bidding.Standing.{Standing}
use Rattle.auction.specs.declared.bidding.Standing.TheVariants.{Waiting, Bidding}
use Rattle.auction.specs.Tally.{Tally}
use Rattle.auction.specs.Rules.{bid_after, bid_at, if_accepted, with_standing, bids, called}
use Rattle.auction.proofs.Keeping.{call_consistent}
use Rattle.hall.specs.declared.books.Books.{Books}
use Rattle.hall.specs.BooksSound.{BooksSound, tally_held}
use Rattle.hall.specs.InBooks.{NotedOf, tally_in}
use Rattle.hall.specs.Steps.{standing_after, counts_after}
use Rattle.hall.proofs.Keeps.{sound_out, sound_by}
use Rattle.hall.proofs.Tables.{same_tally, with_standing_in, renoted, consistent_in, standing_in}

-- An accepted call finds a carrier that is there.
module _ (m : Meaning) (i : ℕ) (act : Act) (b : Books) (noted : NotedOf m b) (x : Bid) (answer : Ok x ≡ bid_at m i act (tally_in b)) where
  pub bid_known : i < b.noted.carriers
  unfolding bid_at
  bid_known = ⊎_elim (λ l. omega (arith, ltb-true i m.carriers l, ap (λ h. h.carriers) noted))
      (λ l. let q : Ok x ≡ Err NoSuchCarrier = answer ∙ cond-false (ltb i m.carriers) _ _ l in let z : ◌≡◌ {A = ℕ} 0 1 = cc in absurd (omega arith)) (cases_Bool (ltb i m.carriers))

  pub bid_given : Ok x ≡ bid_after b.lanes (take b.noted.jobs b.prices) (row_of m i) (get_or b.standings i Waiting) act
  unfolding bid_at
  bid_given =
      answer ∙ cond-true (ltb i m.carriers) _ _ (lt-ltb i m.carriers (omega (arith, bid_known, ap (λ h. h.carriers) noted)))
      ∙ ap (λ s. bid_after b.lanes (take b.noted.jobs b.prices) (row_of m i) s act) (standing_in b i bid_known)

-- ---- one call, over the books

module _ (m : Meaning) (i : ℕ) (act : Act) (b : Books) (noted : NotedOf m b) (r : Result Bid Refusal) (s : Standing) (n : Counts)
    (known : i < b.noted.carriers)
    (answer : r ≡ bid_after b.lanes (take m.jobs b.prices) (row_of m i) (get_or b.standings i Waiting) act)
    (stood : s ≡ standing_after (get_or b.standings i Waiting) r)
    (numbered : n ≡ counts_after act b.counts r) where
  pub call_answered : r ≡ bid_at m i act (tally_in b)
  unfolding bid_at
  call_answered =
      answer ∙ ap (λ k. bid_after b.lanes (take k b.prices) (row_of m i) (get_or b.standings i Waiting) act) (sym (ap (λ h. h.jobs) noted))
      ∙ ap (λ z. bid_after b.lanes (take b.noted.jobs b.prices) (row_of m i) z act) (sym (standing_in b i known))
      ∙ sym (cond-true (ltb i m.carriers) _ _ (lt-ltb i m.carriers (omega (arith, known, ap (λ h. h.carriers) noted))))

  abbrev after : Tally
  after = tally_held b.noted b.step b.lanes b.prices b.holders (set b.standings i s) n

  pub call_tallied : after ≡ called m i act (tally_in b)
  call_tallied = each r stood numbered ∙ ap (λ q. if_accepted q (bids act i) (tally_in b)) call_answered
    where
      each : (q : Result Bid Refusal) → s ≡ standing_after (get_or b.standings i Waiting) q → n ≡ counts_after act b.counts q →
          after ≡ if_accepted q (bids act i) (tally_in b)
      each (Ok x) st nu =
          with_standing_in b i s n ∙ ap (λ z. with_standing i z n (tally_in b)) st ∙ ap (λ z. with_standing i (Bidding x) z (tally_in b)) nu
      each (Err e) st nu =
          same_tally after (tally_in b) refl refl refl refl (ap (take b.noted.carriers) (ap (set b.standings i) st ∙ set-get_or b.standings i Waiting)) nu

  pub call_keeps : Sound m → BooksSound b.noted b.step b.lanes b.prices b.holders (set b.standings i s) n
  call_keeps sound =
      let k = sound_out b.sound in
      sound_by (called m i act (tally_in b)) k.prices_long k.holders_long (length-set b.standings i s ∙ k.standings_long) call_tallied
      (renoted (heading_of m) b.noted (called m i act (tally_in b)) (sym noted)
      (call_consistent m sound (tally_in b) (renoted b.noted (heading_of m) (tally_in b) noted (consistent_in b)) i act))

  pub standing_kept : is_ok r ≡ false → set b.standings i s ≡ b.standings
  standing_kept e = ap (set b.standings i) (stood ∙ left r e) ∙ set-get_or b.standings i Waiting
    where
      left : (q : Result Bid Refusal) → is_ok q ≡ false → standing_after (get_or b.standings i Waiting) q ≡ get_or b.standings i Waiting
      left (Err e) h = refl
      left (Ok x) h = let z : ◌≡◌ {A = ℕ} 0 1 = cc in absurd (omega arith)

  pub counts_kept : is_ok r ≡ false → n ≡ b.counts
  counts_kept e = numbered ∙ left r e
    where
      left : (q : Result Bid Refusal) → is_ok q ≡ false → counts_after act b.counts q ≡ b.counts
      left (Err e) h = refl
      left (Ok x) h = let z : ◌≡◌ {A = ℕ} 0 1 = cc in absurd (omega arith)
