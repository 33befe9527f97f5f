-- What a list of calls promises of the answers and of the tally, where the answers have room.
use Rattle.std.specs.Prelude.{◌≡◌, ◌||◌, List, ◌++◌, length, drop, is_some, None, Option, Result}
use Rattle.sources.specs.Meaning.{Meaning}
use Rattle.refusals.specs.declared.Refusal.{Refusal}
use Rattle.auction.specs.declared.calls.Call.{Call}
use Rattle.auction.specs.declared.calls.Answer.{Answer}
use Rattle.auction.specs.Tally.{Tally}
use Rattle.auction.specs.Calls.{tally_from, answers_from, has_start}
use Rattle.auction.specs.Reached.{LawsHold}
use Rattle.auction.specs.MadeOf.{RunsMade}
use Rattle.auction.specs.Sequential.{SettlesAlone}
use Rattle.hall.specs.declared.books.Books.{Books}
use Rattle.hall.specs.InBooks.{tally_of}

-- On a hall with the tally old, or with none: each answer is the tally's after the calls before it; places behind the answers are as they were; the tally new is that of the list; and the laws of the auction hold of it, if there is one.
pub record Performed (m : Meaning) (calls : List Call) (before after : List (Result Answer Refusal)) (old new : Option Tally) : Type 0 where
  pub answered : after ≡ answers_from m old calls ++ drop (length calls) before
  pub tallied : new ≡ tally_from m old calls
  -- It is started exactly if it was before, or a start of the list was accepted.
  pub started : is_some new ≡ (is_some old || has_start m calls)
  -- The laws hold after every first part of the list too, so that each of its questions is answered from a tally of which they hold.
  pub laws_hold : (first rest : List Call) → calls ≡ first ++ rest → LawsHold m (tally_from m old first)
  -- Each run, of this list or another, is made of summonses, looks and settles that are accepted.
  pub made : RunsMade m
  -- A bid that no award came between is settled as in the sequential auction, and so is never stale. Said of any list of calls, so also of one in which the acts of a run stand in its place.
  pub sequential : SettlesAlone m

-- The same of a new hall, which had no tally, and of the books that it has then.
abbrev pub Replayed : Meaning → List Call → List (Result Answer Refusal) → List (Result Answer Refusal) → Option Books → Type 0
Replayed m calls before after b = Performed m calls before after None (tally_of b)
