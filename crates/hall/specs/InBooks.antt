-- How the hall's books hold a tally.
use Rattle.std.specs.Prelude.{◌≡◌, Some, Option}
use Rattle.std.specs.Option.{option_map}
use Rattle.sources.specs.Meaning.{Meaning}
use Rattle.sources.specs.Tables.{heading_of}
use Rattle.auction.specs.Tally.{Tally}
use Rattle.hall.specs.declared.books.Books.{Books}
use Rattle.hall.specs.BooksSound.{tally_held}

-- What start noted is what the source means.
abbrev pub NotedOf : Meaning → Books → Type 0
NotedOf m b = b.noted ≡ heading_of m

abbrev pub tally_in : Books → Tally
tally_in b = tally_held b.noted b.step b.lanes b.prices b.holders b.standings b.counts

-- None where the hall was never started.
abbrev pub tally_of : Option Books → Option Tally
tally_of books = option_map tally_in books

-- There was a tally before, there is one after, and the relation holds of the two.
pub record Between (relation : Tally → Tally → Type 0) (old new : Option Books) : Type 0 where
  pub before : Tally
  pub after : Tally
  pub was : tally_of old ≡ Some before
  pub is : tally_of new ≡ Some after
  pub holds : relation before after
