-- Where tallies come from.
use Rattle.std.specs.Prelude.{◌≡◌, List, Some, Option}
use Rattle.sources.specs.Meaning.{Meaning}
use Rattle.auction.specs.declared.calls.Call.{Call}
use Rattle.auction.specs.Tally.{Tally}
use Rattle.auction.specs.Calls.{tally_after}
use Rattle.auction.specs.Laws.{AuctionLaws}

-- Some list of calls on a new hall leads to it: starts, summonses, looks, settles, runs and questions, and nothing else.
abbrev pub Reached : Meaning → Option Tally → Type 0
Reached m o = ∥ ((calls : List Call) × (tally_after m calls ≡ o)) ∥₁

-- The laws of the auction hold of the tally, if there is one.
abbrev pub LawsHold : Meaning → Option Tally → Type 0
LawsHold m o = (t : Tally) → o ≡ Some t → AuctionLaws m t
