use Rattle.std.proofs.Common.{refl, ap, arith}
use Rattle.auction.proofs.Keeping.{low_counts}
use Rattle.hall.proofs.Tables.{same_books, consistent_in, low_prices_in, standing_sound}
use Rattle.hall.proofs.Calling.{call_answered, call_keeps, call_tallied, standing_kept, counts_kept}
use Rattle.hall.proofs.books.Books.call_on.Goals as goal

pub respond-requires : goal.respond-requires
respond-requires g c =
    let m = g.S.Source.meaning c.args.source.now in
    let b = c.args.self.now in
    record {
      few_jobs = omega (arith, ap (λ h. h.jobs) c.requires, (consistent_in b).limits.few_jobs);
      low_prices = low_prices_in m b c.requires;
      sound = standing_sound b c.args.carrier (omega arith);
      few_summonses = (low_counts b.noted.carriers b.noted.jobs b.noted.ceiling _ (consistent_in b)).low_summonses;
    }

pub invariant_of-self : goal.invariant_of-self
invariant_of-self g c = record {
  sound = ∣ call_keeps (g.S.Source.meaning c.args.source.now) c.args.carrier c.args.act c.args.self.now c.requires c.respond.result c.respond.new.standing c.respond.new.counts
      (omega arith) c.respond.ensures.answered c.respond.ensures.stood c.respond.ensures.numbered (g.S.Source.sound c.args.source.now) ∣₁;
}

pub returns : goal.returns
returns g c =
    let m = g.S.Source.meaning c.args.source.now in
    let i = c.args.carrier in
    let b = c.args.self.now in
    record {
      noted = refl;
      answered = call_answered m i c.args.act b c.requires c.respond.result c.respond.new.standing c.respond.new.counts
          (omega arith) c.respond.ensures.answered c.respond.ensures.stood c.respond.ensures.numbered;
      tallied = call_tallied m i c.args.act b c.requires c.respond.result c.respond.new.standing c.respond.new.counts
          (omega arith) c.respond.ensures.answered c.respond.ensures.stood c.respond.ensures.numbered;
      refused = λ e. same_books _ b refl refl refl refl refl
          (standing_kept m i c.args.act b c.requires c.respond.result c.respond.new.standing c.respond.new.counts
          (omega arith) c.respond.ensures.answered c.respond.ensures.stood c.respond.ensures.numbered e)
          (counts_kept m i c.args.act b c.requires c.respond.result c.respond.new.standing c.respond.new.counts
          (omega arith) c.respond.ensures.answered c.respond.ensures.stood c.respond.ensures.numbered e);
    }
