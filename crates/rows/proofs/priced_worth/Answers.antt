use Rattle.std.proofs.Common.{ap, ◌∙◌}
use Rattle.sources.specs.Layers.{floor_of, scaled}
use Rattle.sources.proofs.Worths.{worth_floor, worth_times, floor_then_times}
use Rattle.rows.proofs.priced_worth.Goals as goal

pub returns : goal.returns
returns g c =
    let m = g.S.Source.meaning c.args.source.now in
    record {
      piled = c.worth_of.ensures;
      worth = c.worth_of.ensures ∙ worth_times c.args.factor (floor_of c.args.floor m) c.args.carrier c.args.job
          ∙ ap (scaled c.args.factor) (worth_floor c.args.floor m c.args.carrier c.args.job);
      meaning = floor_then_times c.args.floor c.args.factor m;
    }
