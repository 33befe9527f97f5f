-- What is printed of calls, standings and answers.
use Rattle.std.specs.Prelude.{ℕ, List, ◌++◌, Some, None, codes, decimal, Option}
use Rattle.std.specs.Fmt.{signed_decimal}
use Rattle.auction.specs.declared.calls.Call.{Call}
use Rattle.auction.specs.declared.calls.Call.TheVariants.{Start, Summon, Look, Settle, Run, PriceOf, HolderOf, StandingOf, TotalWorth, AllCounts}
use Rattle.auction.specs.declared.calls.Answer.{Answer}
use Rattle.auction.specs.declared.calls.Answer.TheVariants.{Accepted, Settled, Ran, Price, Holder, Stands, Worth, Counted}
use Rattle.auction.specs.declared.bidding.Award.{Award}
use Rattle.auction.specs.declared.bidding.Best.{Best}
use Rattle.auction.specs.declared.bidding.Bid.{Bid}
use Rattle.auction.specs.declared.bidding.Counts.{Counts}
use Rattle.auction.specs.declared.bidding.Ending.{Ending}
use Rattle.auction.specs.declared.bidding.Ending.TheVariants.{Done, Spent}
use Rattle.auction.specs.declared.bidding.Held.{Held}
use Rattle.auction.specs.declared.bidding.Report.{Report}
use Rattle.auction.specs.declared.bidding.Standing.{Standing}
use Rattle.auction.specs.declared.bidding.Standing.TheVariants.{Waiting, Bidding, Served, Out}
use Rattle.auction.specs.declared.bidding.Verdict.{Verdict}
use Rattle.auction.specs.declared.bidding.Verdict.TheVariants.{Out as GoesOut, Stale, Awarded}

-- A call in its plain form, as a log has it.
abbrev pub call_text : Call → List ℕ
call_text (Start step lanes) = codes "start " ++ (decimal step ++ (codes " " ++ decimal lanes))
call_text (Summon i) = codes "summon " ++ decimal i
call_text (Look i) = codes "look " ++ decimal i
call_text (Settle i) = codes "settle " ++ decimal i
call_text (Run depth budget) = codes "run " ++ (decimal depth ++ (codes " " ++ decimal budget))
call_text (PriceOf j) = codes "price " ++ decimal j
call_text (HolderOf j) = codes "holder " ++ decimal j
call_text (StandingOf i) = codes "standing " ++ decimal i
call_text TotalWorth = codes "worth"
call_text AllCounts = codes "counts"

abbrev pub won_text : ℕ → ℕ → Option ℕ → List ℕ
won_text job price None = codes "job " ++ (decimal job ++ (codes " at " ++ decimal price))
won_text job price (Some k) =
    codes "job " ++ (decimal job ++ (codes " at " ++ (decimal price ++ (codes ", carrier " ++ (decimal k ++ codes " displaced")))))

abbrev pub award_text : Award → List ℕ
award_text a = won_text a.job a.price a.displaced

abbrev pub verdict_text : Verdict → List ℕ
verdict_text GoesOut = codes "out"
verdict_text Stale = codes "stale"
verdict_text (Awarded a) = award_text a

-- As `5 summonses, 4 awards, 1 stale, 0 out`.
abbrev pub counts_text : Counts → List ℕ
counts_text n =
    decimal n.summonses ++ (codes " summonses, " ++ (decimal n.awards ++ (codes " awards, " ++ (decimal n.stales ++ (codes " stale, " ++ (decimal n.outs ++ codes " out"))))))

abbrev pub ending_text : Ending → List ℕ
ending_text Done = codes "done"
ending_text Spent = codes "spent"

abbrev pub report_text : Report → List ℕ
report_text p = ending_text p.ending ++ (codes ", " ++ (decimal p.steps ++ (codes " steps, " ++ counts_text p.counts)))

abbrev pub holder_text : Option ℕ → List ℕ
holder_text None = codes "nobody"
holder_text (Some i) = codes "carrier " ++ decimal i

abbrev pub best_text : Best → List ℕ
best_text b = codes "best net " ++ (signed_decimal b.net ++ (codes " at job " ++ (decimal b.job ++ (codes " of worth " ++ decimal b.worth))))

-- What a bid has found: the best of the entries that it looked at, and the runner-up.
abbrev pub found_text : Option Best → ℕ → List ℕ
found_text None runnerUp = codes "nothing found"
found_text (Some b) runnerUp = best_text b ++ (codes ", runner-up " ++ decimal runnerUp)

abbrev pub bid_text : Bid → List ℕ
bid_text b = decimal b.looked ++ (codes " looked at, " ++ found_text b.best b.runner_up)

abbrev pub held_text : Held → List ℕ
held_text h = codes "job " ++ (decimal h.job ++ (codes " of worth " ++ decimal h.worth))

abbrev pub standing_text : Standing → List ℕ
standing_text Waiting = codes "waiting"
standing_text (Bidding b) = codes "bidding, " ++ bid_text b
standing_text (Served h) = codes "served with " ++ held_text h
standing_text Out = codes "out"

abbrev pub answer_text : Answer → List ℕ
answer_text Accepted = codes "accepted"
answer_text (Settled v) = verdict_text v
answer_text (Ran p) = report_text p
answer_text (Price n) = decimal n
answer_text (Holder o) = holder_text o
answer_text (Stands s) = standing_text s
answer_text (Worth n) = decimal n
answer_text (Counted n) = counts_text n
