-- What the hall tells of the worths of a sheet that is under times (carriers + 1).
use Rattle.std.specs.Prelude.{◌≡◌, ℕ, ◌+◌, ◌*◌, ◌/◌, List, length, slice_index_or}
use Rattle.sources.specs.Meaning.{Meaning, worth_of}
use Rattle.auction.specs.declared.bidding.Held.{Held}
use Rattle.auction.specs.declared.bidding.Standing.{Standing}
use Rattle.auction.specs.declared.bidding.Standing.TheVariants.{Served, Out}
use Rattle.auction.specs.Standings.{worth_served}

-- A served carrier is told (carriers + 1) times what its job is worth to it on the sheet.
abbrev pub HeldUnderTimes : Meaning → List Standing → Type 0
HeldUnderTimes m ss = (i : ℕ) (h : Held) → slice_index_or ss i Out ≡ Served h → h.worth ≡ worth_of m i h.job * (length ss + 1)

-- That worth, divided again; 0 where none is told.
abbrev pub worth_told : ℕ → Standing → ℕ
worth_told factor s = worth_served s / factor
