-- What a whole log asks for.
use Rattle.std.specs.Prelude.{◌≡◌, ℕ, ◌+◌, cond, List, [], ◌∷◌, ◌++◌, length, Some, None, Ok, Err, vec_items, Option, Result, ◌==◌, nat_lt}
use Rattle.std.specs.Option.{option_and_then, option_map}
use Rattle.refusals.specs.declared.Refusal.TheVariants.{TooShort}
use Rattle.sources.specs.Layers.{floor_of, times_of}
use Rattle.sources.specs.Meaning.{Meaning}
use Rattle.auction.specs.declared.calls.Call.{Call}
use Rattle.texts.specs.declared.Failure.{Failure}
use Rattle.texts.specs.declared.Failure.TheVariants.{Memory, Refused}
use Rattle.replaying.specs.declared.line.Layer.{Layer}
use Rattle.replaying.specs.declared.line.Layer.TheVariants.{Times, Floor}
use Rattle.replaying.specs.declared.line.Said.{Said}
use Rattle.replaying.specs.declared.line.Said.TheVariants.{Skip, Put, Make}
use Rattle.replaying.specs.declared.log.Layers.{Layers}
use Rattle.replaying.specs.declared.log.Log.{Log}
use Rattle.replaying.specs.declared.log.Trouble.{Trouble}
use Rattle.replaying.specs.declared.log.Trouble.TheVariants.{Calls, Line}
use Rattle.replaying.specs.Lines.{said_by}
use Rattle.replaying.specs.Parts.{lines_of}

-- The layers, and the calls in their order.
pub record Asked : Type 0 where
  pub layers : Layers
  pub calls : List Call

abbrev pub no_layers : Layers
no_layers = record { nearest = None; second = None }

abbrev pub nothing_asked : Asked
nothing_asked = record { layers = no_layers; calls = [] }

-- A layer more over the others: there is a place for two.
abbrev pub layer_over : Layer → Option Layer → Option Layer → Option Layers
layer_over l None second = Some (record { nearest = Some l; second = second })
layer_over l (Some k) None = Some (record { nearest = Some k; second = Some l })
layer_over l (Some k) (Some j) = None

abbrev pub layer_more : Layer → Layers → Option Layers
layer_more l s = layer_over l s.nearest s.second

-- What is asked after one more line, or none if it cannot stand there: a layer stands before every call.
abbrev pub noted : Said → Asked → Option Asked
noted Skip a = Some a
noted (Put l) a = cond (length a.calls == 0) (option_map (λ s. record { layers = s; calls = a.calls }) (layer_more l a.layers)) None
noted (Make c) a = Some (record { layers = a.layers; calls = a.calls ++ (c ∷ []) })

-- The same, or none if the line is not understood.
abbrev pub noted_by : List ℕ → Asked → Option Asked
noted_by line a = option_and_then (λ said. noted said a) (said_by line)

-- What follows a line: the rest, or the line's number if it has none.
abbrev pub or_line : ℕ → Option Asked → (Asked → Result Asked Trouble) → Result Asked Trouble
or_line n None f = Err (Line n)
or_line n (Some a) f = f a

-- The lines from the one numbered n on. The first that is not understood, or cannot stand where it stands, is named.
unfoldable pub asked_from : ℕ → Asked → List (List ℕ) → Result Asked Trouble
asked_from n a [] = Ok a
asked_from n a (line ∷ lines) = or_line n (noted_by line a) (λ b. asked_from (n + 1) b lines)

-- The most bytes of a log.
abbrev pub most_log_bytes : ℕ
most_log_bytes = 65536

-- A whole log; its lines are numbered from 1.
unfoldable pub asked_in : List ℕ → Result Asked Trouble
asked_in text = cond (nat_lt most_log_bytes (length text)) (Err (Calls TooShort)) (asked_from 1 nothing_asked (lines_of text))

-- What the code holds of a log.
abbrev pub held_in : Log → Asked
held_in log = record { layers = log.layers; calls = vec_items log.calls }

-- What comes of taking in the line numbered n: what is asked then, or the line's number. Nothing is said where memory ran out.
abbrev pub Notes : ℕ → Option Asked → Asked → Result (Unit {0}) (Failure Trouble) → Type 0
Notes n o new (Ok x) = o ≡ Some new
Notes n o new (Err Memory) = Unit {0}
Notes n o new (Err (Refused t)) = (o ≡ None) × (t ≡ Line n)

-- What comes of reading a log.
abbrev pub ReadsLog : Result Asked Trouble → Result Log (Failure Trouble) → Type 0
ReadsLog r (Ok log) = r ≡ Ok (held_in log)
ReadsLog r (Err Memory) = Unit {0}
ReadsLog r (Err (Refused t)) = r ≡ Err t

-- A source under a layer, or under none.
abbrev pub under : Option Layer → Meaning → Meaning
under None m = m
under (Some (Times g)) m = times_of g m
under (Some (Floor f)) m = floor_of f m

-- A source under the layers of a log, the first one nearest.
abbrev pub layered : Asked → Meaning → Meaning
layered a m = under a.layers.second (under a.layers.nearest m)
