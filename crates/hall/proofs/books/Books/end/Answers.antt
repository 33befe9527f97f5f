use Rattle.std.proofs.Common.{◌<◌, sym, ◌∙◌, arith, rules}
use Rattle.auction.proofs.Keeping.{low_counts}
use Rattle.hall.specs.InBooks.{tally_in}
use Rattle.hall.proofs.Tables.{consistent_in}
use Rattle.hall.proofs.Settling.{ends_sound, ends_ruled, none_in, none_keeps, job_known, former_known, award_in, award_keeps}
use Rattle.hall.proofs.books.Books.end.Goals as goal

pub conclude-verdict-requires : goal.conclude-verdict-requires
conclude-verdict-requires c =
    let b = c.args.self.now in
    let low = low_counts b.noted.carriers b.noted.jobs b.noted.ceiling (tally_in b) (consistent_in b) in
    record {
      low_step = (consistent_in b).limits.low_step;
      sound = ends_sound b c.args.carrier c.args.bid c.requires.known c.requires.bidding;
      few_awards = omega (arith, low.low_awards);
      few_stales = low.low_stales;
      few_outs = omega (arith, low.low_outs);
    }

pub offset_bounds-self-award : goal.offset_bounds-self-award
offset_bounds-self-award c =
    let l : c.in-Awarded.award.job < 256 = job_known c.args.self.now c.args.carrier c.args.bid c.requires.known c.requires.bidding c.conclude-verdict.result c.conclude-verdict.ensures.answered
    c.conclude-verdict.new.standing c.conclude-verdict.new.counts c.conclude-verdict.ensures.stood c.conclude-verdict.ensures.numbered c.in-Awarded.award c.in-Awarded.is in
    search rules

pub bounds-self-award : goal.bounds-self-award
bounds-self-award c =
    job_known c.args.self.now c.args.carrier c.args.bid c.requires.known c.requires.bidding c.conclude-verdict.result c.conclude-verdict.ensures.answered
    c.conclude-verdict.new.standing c.conclude-verdict.new.counts c.conclude-verdict.ensures.stood c.conclude-verdict.ensures.numbered c.in-Awarded.award c.in-Awarded.is

pub free-requires : goal.free-requires
free-requires c =
    former_known c.args.self.now c.args.carrier c.args.bid c.requires.known c.requires.bidding c.conclude-verdict.result c.conclude-verdict.ensures.answered
    c.conclude-verdict.new.standing c.conclude-verdict.new.counts c.conclude-verdict.ensures.stood c.conclude-verdict.ensures.numbered c.in-Awarded.award c.in-Awarded.is

pub invariant_of-self : goal.invariant_of-self
invariant_of-self c = record {
  sound = ∣ award_keeps c.args.self.now c.args.carrier c.args.bid c.requires.known c.requires.bidding c.conclude-verdict.result c.conclude-verdict.ensures.answered
      c.conclude-verdict.new.standing c.conclude-verdict.new.counts c.conclude-verdict.ensures.stood c.conclude-verdict.ensures.numbered c.in-Awarded.award c.in-Awarded.is
      c.free.new.standings c.free.ensures ∣₁;
}

pub invariant_of-self-in_default : goal.invariant_of-self-in_default
invariant_of-self-in_default c = record {
  sound = ∣ none_keeps c.args.self.now c.args.carrier c.args.bid c.requires.known c.requires.bidding c.conclude-verdict.result c.conclude-verdict.ensures.answered
      c.conclude-verdict.new.standing c.conclude-verdict.new.counts c.conclude-verdict.ensures.stood c.conclude-verdict.ensures.numbered c.in_default.not-Awarded ∣₁;
}

pub returns-in-Awarded-clause-answered : goal.returns-in-Awarded-clause-answered
returns-in-Awarded-clause-answered c =
    sym c.in-Awarded.is
    ∙ ends_ruled c.args.self.now c.args.carrier c.args.bid c.requires.known c.requires.bidding c.conclude-verdict.result c.conclude-verdict.ensures.answered

pub returns-in-Awarded-clause-tallied : goal.returns-in-Awarded-clause-tallied
returns-in-Awarded-clause-tallied c =
    award_in c.args.self.now c.args.carrier c.args.bid c.requires.known c.requires.bidding c.conclude-verdict.result c.conclude-verdict.ensures.answered
    c.conclude-verdict.new.standing c.conclude-verdict.new.counts c.conclude-verdict.ensures.stood c.conclude-verdict.ensures.numbered c.in-Awarded.award c.in-Awarded.is
    c.free.new.standings c.free.ensures

pub returns-in_default-clause-answered : goal.returns-in_default-clause-answered
returns-in_default-clause-answered c =
    ends_ruled c.args.self.now c.args.carrier c.args.bid c.requires.known c.requires.bidding c.conclude-verdict.result c.conclude-verdict.ensures.answered

pub returns-in_default-clause-tallied : goal.returns-in_default-clause-tallied
returns-in_default-clause-tallied c =
    none_in c.args.self.now c.args.carrier c.args.bid c.requires.known c.requires.bidding c.conclude-verdict.result c.conclude-verdict.ensures.answered
    c.conclude-verdict.new.standing c.conclude-verdict.new.counts c.conclude-verdict.ensures.stood c.conclude-verdict.ensures.numbered c.in_default.not-Awarded
