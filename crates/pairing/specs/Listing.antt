-- What is printed of an auction that has ended.
use Rattle.std.specs.Prelude.{ℕ, ◌+◌, List, [], ◌∷◌, ◌++◌, map, codes, decimal}
use Rattle.refusals.specs.declared.Refusal.{Refusal}
use Rattle.refusals.specs.Numbering.{number_of}
use Rattle.sources.specs.Meaning.{Meaning, worth_of}
use Rattle.auction.specs.declared.bidding.Counts.{Counts}
use Rattle.auction.specs.declared.bidding.Standing.{Standing}
use Rattle.auction.specs.declared.bidding.Standing.TheVariants.{Waiting, Bidding, Served, Out}
use Rattle.auction.specs.Standings.{job_served}
use Rattle.auction.specs.Laws.{worth}

-- Byte 10 ends each line.
abbrev pub newline : List ℕ
newline = 10 ∷ []

-- One space parts the fields.
abbrev pub space : List ℕ
space = codes " "

-- What carrier i has: its job and what that is worth to it, as `1 11`; `-` if it is out; `?` if it waits or bids.
abbrev pub outcome_text : Meaning → ℕ → Standing → List ℕ
outcome_text m i Waiting = codes "?"
outcome_text m i (Bidding b) = codes "?"
outcome_text m i (Served h) = decimal h.job ++ (space ++ decimal (worth_of m i h.job))
outcome_text m i Out = codes "-"

-- The line of a carrier, as `1 1 11`.
abbrev pub carrier_line : Meaning → ℕ → Standing → List ℕ
carrier_line m i s = decimal i ++ (space ++ (outcome_text m i s ++ newline))

-- The lines of carriers that are numbered from i on.
abbrev pub carrier_lines : Meaning → ℕ → List Standing → List ℕ
carrier_lines m i [] = []
carrier_lines m i (s ∷ ss) = carrier_line m i s ++ carrier_lines m (i + 1) ss

-- The last line, as `worth 24 awards 4 stale 1`.
abbrev pub last_line : ℕ → Counts → List ℕ
last_line w n = codes "worth " ++ (decimal w ++ (codes " awards " ++ (decimal n.awards ++ (codes " stale " ++ (decimal n.stales ++ newline)))))

-- What is printed of these standings and counts: a line for each carrier, and what the jobs that are held are worth in all.
abbrev pub listing : Meaning → List Standing → Counts → List ℕ
listing m ss n = carrier_lines m 0 ss ++ last_line (worth m (map job_served ss)) n

-- What is printed of a refusal, as `refused 4`.
abbrev pub refused_line : Refusal → List ℕ
refused_line e = codes "refused " ++ (decimal (number_of e) ++ newline)
