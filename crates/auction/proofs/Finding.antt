-- A look adds to what a bid has found, and rising prices leave it found.
use Rattle.std.proofs.Common.{◌≡◌, ℕ, ◌+◌, ◌≤◌, Bool, true, false, cond, eqb, List, [], ◌∷◌, ◌++◌, map, length, get_or, take, drop, pos, ◌-ℤ◌, fold, sym, refl, ap, ◌∙◌, subst, append_assoc, arith}
use Rattle.std.specs.List.{AllByRecursion}
use Rattle.std.proofs.Math.Seq.{take-append_seam}
use Rattle.std.proofs.ByRecursion.{All-append, All-weaker}
use Rattle.std.proofs.lemmas.List.{length-append, length-take, length-take-le, length-drop, map-append, take-append-drop}
use Rattle.auction.specs.declared.bidding.Best.{Best}
use Rattle.auction.specs.declared.bidding.Bid.{Bid}
use Rattle.auction.specs.Bids.{weighed, looked_on, new_bid}
use Rattle.auction.specs.Looks.{nets_at, Gathered}
use Rattle.auction.specs.Found.{SeenEntry, nets_seen, Found}
use Rattle.auction.proofs.Weighed.{folded_looked}
use Rattle.auction.proofs.Gathering.{folded_gathers}

-- ---- the nets of what was seen

abbrev net_of : SeenEntry → Best
net_of s = record { net = pos s.entry.1 -ℤ pos s.price; job = s.entry.0; worth = s.entry.1 }

nets_seen-append : (xs ys : List SeenEntry) → nets_seen (xs ++ ys) ≡ nets_seen xs ++ nets_seen ys
nets_seen-append [] ys = refl
nets_seen-append (s ∷ xs) ys = go (nets_seen-append xs ys) (eqb s.entry.1 0)
  where
    go : nets_seen (xs ++ ys) ≡ nets_seen xs ++ nets_seen ys → (t : Bool) →
        cond t (nets_seen (xs ++ ys)) (net_of s ∷ nets_seen (xs ++ ys)) ≡ cond t (nets_seen xs) (net_of s ∷ nets_seen xs) ++ nets_seen ys
    go rest true = rest
    go rest false = ap (λ z. net_of s ∷ z) rest

-- ---- one look

module _ (ps : List ℕ) where
  -- The entry at the price now.
  abbrev seen_now : ℕ × ℕ → SeenEntry
  seen_now e = record { entry = e; price = get_or ps e.0 0 }

  nets_now : (es : List (ℕ × ℕ)) → nets_seen (map seen_now es) ≡ nets_at ps es
  nets_now [] = refl
  nets_now (e ∷ es) = ap (λ z. cond (eqb e.1 0) z (net_of (seen_now e) ∷ z)) (nets_now es)

  entries_now : (es : List (ℕ × ℕ)) → map (λ s. s.entry) (map seen_now es) ≡ es
  entries_now [] = refl
  entries_now (e ∷ es) = ap (λ z. e ∷ z) (entries_now es)

  unrisen : (es : List (ℕ × ℕ)) → AllByRecursion (λ s. s.price ≤ get_or ps s.entry.0 0) (map seen_now es)
  unrisen [] = tt
  unrisen (e ∷ es) = (omega arith, unrisen es)

-- The first k, and n more.
pub taken_on : {X : Type 0} (xs : List X) (k n : ℕ) → k ≤ length xs → take (k + length (take n (drop k xs))) xs ≡ take k xs ++ take n (drop k xs)
taken_on xs k n l =
    let more = take n (drop k xs) in
    let whole : (take k xs ++ more) ++ drop n (drop k xs) ≡ xs =
    append_assoc (take k xs) more (drop n (drop k xs)) ∙ ap (λ z. take k xs ++ z) (take-append-drop n (drop k xs)) ∙ take-append-drop k xs in
    let long : length (take k xs ++ more) ≡ k + length more = omega (arith, length-append (take k xs) more, length-take-le k xs l) in
    ap (take (k + length more)) (sym whole) ∙ ap (λ i. take i ((take k xs ++ more) ++ drop n (drop k xs))) (sym long) ∙ take-append_seam (take k xs ++ more) (drop n (drop k xs))

module _ (ps : List ℕ) (row : List (ℕ × ℕ)) where
  pub new_bid_found : Found ps row new_bid
  new_bid_found = record { seen = []; within = omega arith; entries = refl; risen = tt; gathered = (refl, refl) }

  pub look_found : (lanes : ℕ) (b : Bid) → Found ps row b → Found ps row (looked_on lanes ps row b)
  look_found lanes b f = record {
    seen = f.seen ++ map (seen_now ps) es;
    within = omega (arith, looked, f.within, length-take lanes (drop b.looked row), length-drop b.looked row);
    entries = map-append (λ s. s.entry) f.seen (map (seen_now ps) es) ∙ ap (λ z. map (λ s. s.entry) f.seen ++ z) (entries_now ps es) ∙ ap (λ z. z ++ es) f.entries
        ∙ sym (taken_on row b.looked lanes f.within) ∙ ap (λ n. take n row) (sym looked);
    risen = All-append (λ s. s.price ≤ get_or ps s.entry.0 0) f.seen (map (seen_now ps) es) f.risen (unrisen ps es);
    gathered = subst (λ z. Gathered 0 new.runner_up z new.best) (ap (λ z. nets_seen f.seen ++ z) (sym (nets_now ps es)) ∙ sym (nets_seen-append f.seen (map (seen_now ps) es)))
        (folded_gathers ps 0 es b (nets_seen f.seen) f.gathered);
  }
    where
      es : List (ℕ × ℕ)
      es = take lanes (drop b.looked row)

      new : Bid
      new = fold (weighed ps) b es

      looked : new.looked ≡ b.looked + length es
      looked = folded_looked ps es b

pub rise_found : (ps qs : List ℕ) → ((k : ℕ) → get_or ps k 0 ≤ get_or qs k 0) → (row : List (ℕ × ℕ)) (b : Bid) → Found ps row b → Found qs row b
rise_found ps qs rise row b f = record {
  seen = f.seen;
  within = f.within;
  entries = f.entries;
  risen = All-weaker (λ s. s.price ≤ get_or ps s.entry.0 0) (λ s. s.price ≤ get_or qs s.entry.0 0) (λ s h. omega (arith, h, rise s.entry.0)) f.seen f.risen;
  gathered = f.gathered;
}
