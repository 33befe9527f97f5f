-- What a line of a log says; none if it is not understood.
use Rattle.std.specs.Prelude.{ℕ, ◌^◌, Bool, cond, List, [], ◌∷◌, Some, None, length, codes, Option, ◌==◌, nat_lt, slice_get, slice_index}
use Rattle.std.specs.Option.{option_and_then}
use Rattle.std.specs.Str.{bytes_eq}
use Rattle.auction.specs.declared.calls.Call.TheVariants.{Start, Summon, Look, Settle, Run, PriceOf, HolderOf, StandingOf, TotalWorth, AllCounts}
use Rattle.replaying.specs.declared.line.Layer.TheVariants.{Times, Floor}
use Rattle.replaying.specs.declared.line.Said.{Said}
use Rattle.replaying.specs.declared.line.Said.TheVariants.{Skip, Put, Make}
use Rattle.replaying.specs.Numerals.{number_in}
use Rattle.replaying.specs.Parts.{words_of}

-- A word alone. A blank line is one empty word.
abbrev pub said_alone : List ℕ → Option Said
said_alone word =
    cond (bytes_eq word (codes "")) (Some Skip) (
    cond (bytes_eq word (codes "worth")) (Some (Make TotalWorth)) (
    cond (bytes_eq word (codes "counts")) (Some (Make AllCounts))
    None))

-- A times layer has a factor below 2 ^ 32.
abbrev pub said_times : ℕ → Option Said
said_times g = cond (nat_lt g (2 ^ 32)) (Some (Put (Times g))) None

-- A word and a number.
abbrev pub said_of_one : List ℕ → ℕ → Option Said
said_of_one word n =
    cond (bytes_eq word (codes "summon")) (Some (Make (Summon n))) (
    cond (bytes_eq word (codes "look")) (Some (Make (Look n))) (
    cond (bytes_eq word (codes "settle")) (Some (Make (Settle n))) (
    cond (bytes_eq word (codes "price")) (Some (Make (PriceOf n))) (
    cond (bytes_eq word (codes "holder")) (Some (Make (HolderOf n))) (
    cond (bytes_eq word (codes "standing")) (Some (Make (StandingOf n))) (
    cond (bytes_eq word (codes "times")) (said_times n) (
    cond (bytes_eq word (codes "floor")) (Some (Put (Floor n)))
    None)))))))

-- A word and two numbers.
abbrev pub said_of_two : List ℕ → ℕ → ℕ → Option Said
said_of_two word a b =
    cond (bytes_eq word (codes "start")) (Some (Make (Start a b))) (
    cond (bytes_eq word (codes "run")) (Some (Make (Run a b)))
    None)

-- A word, the two words behind it, if there are any, and whether more follow; a line with more is not understood.
abbrev pub said_with : List ℕ → Option (List ℕ) → Option (List ℕ) → Bool → Option Said
said_with w None second more = said_alone w
said_with w (Some a) None more = option_and_then (said_of_one w) (number_in a)
said_with w (Some a) (Some b) more = cond more None (option_and_then (λ m. option_and_then (said_of_two w m) (number_in b)) (number_in a))

abbrev pub said_by_words : List (List ℕ) → Option Said
said_by_words [] = None
said_by_words (w ∷ ws) = said_with w (slice_get ws 0) (slice_get ws 1) (nat_lt 2 (length ws))

-- A line that begins with byte 35, `#`, is a comment.
unfoldable pub said_by : List ℕ → Option Said
said_by line = cond (slice_index line 0 == 35) (Some Skip) (said_by_words (words_of line))
