use Rattle.std.proofs.Common.{◌-◌, [], ◌∷◌, ◌++◌, length, get_or, take, sym, refl, ap, ◌∙◌, arith}
use Rattle.std.proofs.lemmas.List.{append-nil, take_all}
use Rattle.rings.specs.Held.{held}
use Rattle.auction.specs.declared.bidding.Standing.TheVariants.{Waiting, Bidding}
use Rattle.auction.specs.Standings.{if_waiting, in_flight, looks_for, if_bidding}
use Rattle.auction.specs.Runs.{gathered}
use Rattle.hall.proofs.Tables.{consistent_in}
use Rattle.hall.proofs.RunSteps.{few_entries, few_standings, gathered_few, gathered_on, one_waits, one-bids, none_waits, none-bids, same_start}
use Rattle.hall.proofs.books.Books.begin.Goals as goal
use Rattle.hall.proofs.books.Books.begin.Goals.{in-Waiting, in-Bidding, in_default}

pub join_line-requires : goal.join_line-requires
join_line-requires g c =
    let b = c.args.self.now in
    omega (arith, ap length c.loop-carrier.invariant.waits, gathered_few if_waiting (take b.noted.carriers b.standings) c.loop-carrier.carrier c.loop-carrier-test.true one_waits (few_standings b))

pub join_flight-requires : goal.join_flight-requires
join_flight-requires g c =
    let m = g.S.Source.meaning c.args.source.now in
    let b = c.args.self.now in
    omega (
      arith,
      ap length c.loop-carrier.invariant.bids,
      gathered_few (if_bidding m b.lanes) (take b.noted.carriers b.standings) c.loop-carrier.carrier c.loop-carrier-test.true (one-bids m b.lanes) (few_standings b),
    )

pub looks_for-requires : goal.looks_for-requires
looks_for-requires g c =
    let m = g.S.Source.meaning c.args.source.now in
    let k = (consistent_in c.args.self.now).limits in
    record {
      some = k.some_lanes;
      few = k.few_lanes;
      short = omega (arith, c.saturating_sub-entries.ensures, c.row_length.ensures, few_entries m (g.S.Source.sound c.args.source.now) c.args.self.now c.requires.noted c.loop-carrier.carrier);
    }

pub loop-carrier-preserved : goal.loop-carrier-preserved
loop-carrier-preserved g c =
    let m = g.S.Source.meaning c.args.source.now in
    let b = c.args.self.now in
    let ss = take b.noted.carriers b.standings in
    let i = c.loop-carrier.carrier in
    let l = c.loop-carrier-test.true in
    let inv = c.loop-carrier.invariant in
    let bids = if_bidding m b.lanes in
    let q = c.loop-carrier.queues in
    let q' = c.match-standing.queues in
    elim c.match-standing.branch [
      | in-Waiting w ↦ record {
        waits = gathered_on if_waiting ss i l Waiting (held q.line) (held q'.line) w.in-Waiting.is inv.waits (ap (λ z. held z.line) w.queues-is ∙ w.join_line.ensures.waits);
        bids = gathered_on bids ss i l Waiting (held q.flight) (held q'.flight) w.in-Waiting.is inv.bids
            (ap (λ z. held z.flight) w.queues-is ∙ w.join_line.ensures.bids ∙ sym (append-nil _));
      }
      | in-Bidding w ↦ record {
        waits = gathered_on if_waiting ss i l (Bidding w.in-Bidding.bid) (held q.line) (held q'.line) w.in-Bidding.is inv.waits
            (ap (λ z. held z.line) w.queues-is ∙ w.join_flight.ensures.waits ∙ sym (append-nil _));
        bids = gathered_on bids ss i l (Bidding w.in-Bidding.bid) (held q.flight) (held q'.flight) w.in-Bidding.is inv.bids
            (ap (λ z. held z.flight) w.queues-is ∙ w.join_flight.ensures.bids
            ∙ ap (λ z. held q.flight ++ in_flight i z ∷ [])
            (w.looks_for.ensures ∙ ap (looks_for b.lanes) (w.saturating_sub-entries.ensures ∙ ap (λ z. z - w.in-Bidding.bid.looked) w.row_length.ensures)));
      }
      | in_default w ↦
          let s = get_or ss i Waiting in
          let none = ap (λ zs. held q.line ++ zs) (sym (none_waits i s w.in_default.not-Waiting)) in
          let idle = ap (λ zs. held q.flight ++ zs) (sym (none-bids m b.lanes i s w.in_default.not-Bidding)) in
          record {
            waits = gathered_on if_waiting ss i l s _ _ refl inv.waits (ap (λ z. held z.line) w.queues-is ∙ sym (append-nil _) ∙ none);
            bids = gathered_on bids ss i l s _ _ refl inv.bids (ap (λ z. held z.flight) w.queues-is ∙ sym (append-nil _) ∙ idle);
          }
    ]

pub returns : goal.returns
returns g c =
    let m = g.S.Source.meaning c.args.source.now in
    let b = c.args.self.now in
    let inv = c.loop-carrier.invariant in
    let all = take_all c.loop-carrier.carrier (take b.noted.carriers b.standings) c.loop-carrier-test.false in
    same_start m b c.loop-carrier.queues (inv.waits ∙ ap (gathered if_waiting 0) all) (inv.bids ∙ ap (gathered (if_bidding m b.lanes) 0) all)
