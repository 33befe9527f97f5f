-- A look, over the books.
use Rattle.std.proofs.Common.{◌≡◌, ℕ, ◌<◌, length, get_or, take, Ok, sym, ap, ◌∙◌, subst, arith}
use Rattle.std.proofs.lemmas.List.{get_or-set_same}
use Rattle.sources.specs.Meaning.{Meaning, row_of}
use Rattle.auction.specs.declared.bidding.Bid.{Bid}
use Rattle.auction.specs.declared.bidding.Act.TheVariants.{Look}
use Rattle.auction.specs.declared.bidding.Standing.TheVariants.{Waiting, Bidding, Out}
use Rattle.auction.specs.Tally.{standing_at}
use Rattle.auction.specs.Looks.{LooksOn, Looks}
use Rattle.auction.specs.Rules.{bid_at, if_accepted, bids, called}
use Rattle.auction.proofs.Gathering.{looks_on, look_from}
use Rattle.hall.specs.declared.books.Books.{Books}
use Rattle.hall.specs.InBooks.{NotedOf, tally_in}
use Rattle.hall.proofs.Tables.{consistent_in, standing_in}
use Rattle.hall.proofs.Calling.{bid_known, bid_given}

pub looks_in : (m : Meaning) (i : ℕ) (x : Bid) (old new : Books) → NotedOf m old → Ok x ≡ bid_at m i Look (tally_in old) → tally_in new ≡ called m i Look (tally_in old) →
    Looks m i (tally_in old) (tally_in new)
looks_in m i x old new noted answer tallied =
    let found = look_from old.lanes (take old.noted.jobs old.prices) (row_of m i) (get_or old.standings i Waiting) x (sym (bid_given m i Look old noted x answer)) in
    let after : tally_in new ≡ bids Look i x (tally_in old) = tallied ∙ ap (λ r. if_accepted r (bids Look i) (tally_in old)) (sym answer) in
    let known = bid_known m i Look old noted x answer in
    let inside : i < length (tally_in old).standings = omega (arith, known, (consistent_in old).standings_sized) in
    record {
      old = found.0;
      new = x;
      was = standing_in old i known ∙ found.1;
      is = ap (λ t. standing_at t i) after ∙ get_or-set_same (tally_in old).standings i (Bidding x) Out inside;
      on = subst (LooksOn old.lanes (take old.noted.jobs old.prices) (row_of m i) found.0) found.2 (looks_on (take old.noted.jobs old.prices) old.lanes (row_of m i) found.0);
    }
