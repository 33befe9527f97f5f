-- What every call promises of the books: it answers as the rule says, and leaves the tally that the rule says. A refused call leaves the books as they were.
use Rattle.std.specs.Prelude.{◌≡◌, false, is_ok, Option, Result}
use Rattle.sources.specs.Meaning.{Meaning}
use Rattle.refusals.specs.declared.Refusal.{Refusal}
use Rattle.hall.specs.declared.books.Books.{Books}
use Rattle.auction.specs.Tally.{Tally}
use Rattle.hall.specs.InBooks.{tally_of}

pub record Obeys {A : Type 0} (answer : Meaning → Option Tally → Result A Refusal) (tally : Meaning → Option Tally → Option Tally) (m : Meaning) (old new : Option Books) (r : Result A Refusal) : Type 0 where
  pub answered : r ≡ answer m (tally_of old)
  pub tallied : tally_of new ≡ tally m (tally_of old)
  pub refused : is_ok r ≡ false → new ≡ old
