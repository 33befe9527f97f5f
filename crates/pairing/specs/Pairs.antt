-- What comes of pairing the carriers and jobs of a sheet file.
use Rattle.std.specs.Prelude.{◌≡◌, ℕ, ◌+◌, ◌≤◌, List, [], ◌∷◌, length, ℤ, pos, ◌-ℤ◌, Some, None, Ok, Err, Option, Result}
use Rattle.std.specs.List.{AllByRecursion}
use Rattle.std.specs.Result.{IfOk, result_map_both}
use Rattle.refusals.specs.declared.Fault.{Fault}
use Rattle.refusals.specs.declared.Refusal.{Refusal}
use Rattle.refusals.specs.declared.Refusal.TheVariants.{CountsOutside, TooShort}
use Rattle.refusals.specs.Numbering.{number_of}
use Rattle.numbers.specs.Writing.{over}
use Rattle.sources.specs.Meaning.{Meaning}
use Rattle.sources.specs.Layers.{times_of}
use Rattle.sheetfile.specs.Layout.{SheetFile}
use Rattle.sheetfile.specs.Reading.{loaded_within}
use Rattle.sheetfile.specs.Steps.{and_then, room_for, updated}
use Rattle.auction.specs.declared.calls.Call.{Call}
use Rattle.auction.specs.declared.calls.Call.TheVariants.{Start, Run}
use Rattle.auction.specs.declared.bidding.Counts.{Counts}
use Rattle.auction.specs.declared.bidding.Standing.{Standing}
use Rattle.auction.specs.Standings.{ServedOrOut}
use Rattle.auction.specs.Tally.{Tally}
use Rattle.auction.specs.Calls.{tally_after}
use Rattle.auction.specs.Laws.{Among, Pairing, pairing_of, worth}
use Rattle.pairing.specs.Listing.{listing, refused_line}

-- The most bytes of a listing: 64 for each of 128 carriers, and 128.
abbrev pub most_text : ℕ
most_text = 8320

-- The figures of the auction of every sheet.
abbrev pub pair_step : ℕ
pair_step = 1

abbrev pub pair_lanes : ℕ
pair_lanes = 8

abbrev pub pair_depth : ℕ
pair_depth = 8

abbrev pub pair_budget : ℕ
pair_budget = 1000000

-- A start and a run.
abbrev pub two_calls : List Call
two_calls = Start pair_step pair_lanes ∷ (Run pair_depth pair_budget ∷ [])

-- The sheet under times (carriers + 1).
abbrev pub timed : Meaning → Meaning
timed m = times_of (m.carriers + 1) m

-- The tally after the two calls; none if the start was refused.
unfoldable pub auctioned : Meaning → Option Tally
auctioned m = tally_after (timed m) two_calls

-- A start with this step and these lanes is refused only because of the counts: the ceiling, times (carriers + 1), is above 2 ^ 36.
abbrev pub listing_after : Meaning → Option Tally → Result (List ℕ) Refusal
listing_after m None = Err CountsOutside
listing_after m (Some t) = Ok (listing m t.standings t.counts)

-- The listing of a sheet, or why there is none.
abbrev pub listed_of : Meaning → Result (List ℕ) Refusal
listed_of m = listing_after m (auctioned m)

abbrev pub listed_after : Result Meaning Fault → Result (List ℕ) Refusal
listed_after (Err f) = Err f.refusal
listed_after (Ok m) = listed_of m

-- The listing of a sheet file, or why there is none.
abbrev pub listed : List ℕ → Result (List ℕ) Refusal
listed bytes = listed_after (loaded_within bytes)

-- A text that has to fit so many bytes.
abbrev pub fitted : ℕ → Result (List ℕ) Refusal → Result (List ℕ) Refusal
fitted room r = and_then r (λ text. room_for TooShort (length text) room text)

-- What comes of writing the listing to so many bytes: 12, last of all, if it does not fit.
abbrev pub listed_within : List ℕ → ℕ → Result (List ℕ) Refusal
listed_within bytes room = fitted room (listed bytes)

-- How long the text is.
abbrev pub sized : Result (List ℕ) Refusal → Result ℕ Refusal
sized r = result_map_both length (λ e. e) r

-- The text at the beginning of out, and what was there behind it; all of out as it was after a refusal.
abbrev pub put_into : List ℕ → Result (List ℕ) Refusal → List ℕ
put_into out r = updated r out (λ text. over out 0 text)

-- The length of the text, or minus the number of the refusal.
abbrev pub signed_size : Result (List ℕ) Refusal → ℤ
signed_size (Ok text) = pos (length text)
signed_size (Err e) = pos 0 -ℤ pos (number_of e)

-- A text has at most so many bytes, if there is one.
abbrev pub AtMost : ℕ → Result (List ℕ) Refusal → Type 0
AtMost n r = IfOk r (λ text. length text ≤ n)

-- What is printed: the listing, or the refusal.
abbrev pub printed : Result (List ℕ) Refusal → List ℕ
printed (Ok text) = text
printed (Err e) = refused_line e

-- What standings and counts an auction ended with, or its refusal.
abbrev pub Ends : Option Tally → Result Counts Refusal → List Standing → Type 0
Ends None r ss = r ≡ Err CountsOutside
Ends (Some t) r ss = (r ≡ Ok t.counts) × (ss ≡ t.standings)

-- What is told of a tally is a pairing of the sheet, and no pairing of the carriers that are served or out is worth more.
-- So if every carrier is, no pairing of the sheet is worth more.
pub record WellPaired (m : Meaning) (t : Tally) : Type 0 where
  pub own : Pairing m (pairing_of t)
  pub best : (p : List (Option ℕ)) → Pairing m p → Among t p → worth m p ≤ worth m (pairing_of t)
  pub best_of_all : AllByRecursion ServedOrOut t.standings → (p : List (Option ℕ)) → Pairing m p → worth m p ≤ worth m (pairing_of t)

-- That holds of the tally that the auction of a sheet ends with.
abbrev pub PairsWell : Meaning → Type 0
PairsWell m = (t : Tally) → auctioned m ≡ Some t → WellPaired m t

-- A text lists what the auction of a sheet ends with, which is well paired.
pub record ListsPairs (m : Meaning) (text : List ℕ) : Type 0 where
  pub tally : Tally
  pub ended : auctioned m ≡ Some tally
  pub told : text ≡ listing m tally.standings tally.counts
  pub paired : WellPaired m tally

-- The bytes are the file of a sheet, and a text lists that sheet's pairs.
abbrev pub ListsFile : List ℕ → List ℕ → Type 0
ListsFile bytes text = (m : Meaning) × SheetFile bytes m × ListsPairs m text
