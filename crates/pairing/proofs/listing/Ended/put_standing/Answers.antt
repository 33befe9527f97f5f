use Rattle.std.proofs.Common.{◌≤◌, ◌++◌, length, decimal, sym, ap, ◌∙◌, subst, arith}
use Rattle.std.proofs.lemmas.List.{length-append}
use Rattle.sources.specs.Meaning.{worth_of}
use Rattle.outputs.proofs.Puts.{puts_same, puts_then}
use Rattle.pairing.specs.Listing.{space, outcome_text}
use Rattle.pairing.proofs.Lines.{told_is}
use Rattle.pairing.proofs.listing.Ended.put_standing.Goals as goal

-- what is put is what the job is worth on the sheet
pub returns-in-Served-clause-puts : goal.returns-in-Served-clause-puts
returns-in-Served-clause-puts g c =
    let m = g.S.Source.meaning c.args.self.now.source.now in
    let ended = c.args.self.now in
    let worth = c.on_sheet.ensures ∙ told_is m ended.standings.now ended.timed c.args.carrier _ (sym c.requires ∙ c.in-Served.is) in
    puts_same (ap (λ n. decimal c.in-Served.held.job ++ (space ++ decimal n)) worth ∙ ap (outcome_text m c.args.carrier) (sym c.in-Served.is))
    (puts_then c.put_decimal.ensures.puts (puts_then c.put-in-Served.ensures.puts c.put_decimal-in-Served.ensures.puts))

pub returns-in-Served-clause-short : goal.returns-in-Served-clause-short
returns-in-Served-clause-short g c =
    let m = g.S.Source.meaning c.args.self.now.source.now in
    let ended = c.args.self.now in
    let worth = c.on_sheet.ensures ∙ told_is m ended.standings.now ended.timed c.args.carrier _ (sym c.requires ∙ c.in-Served.is) in
    let job = decimal c.in-Served.held.job in
    let digits = decimal (worth_of m c.args.carrier c.in-Served.held.job) in
    let short : length (decimal (worth_of (g.S.Source.meaning c.args.self.now.source.now) c.args.carrier c.in-Served.held.job)) ≤ 20 = subst (λ n. length (decimal n) ≤ 20) worth c.put_decimal-in-Served.ensures.short in
    subst (λ s. length (outcome_text m c.args.carrier s) ≤ 41) (sym c.in-Served.is) (omega (arith, length-append job (space ++ digits), length-append space digits, c.put_decimal.ensures.short, short))
