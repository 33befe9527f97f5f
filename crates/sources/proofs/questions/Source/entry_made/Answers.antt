use Rattle.std.proofs.Common.{ap, ◌∙◌}
use Rattle.std.specs.Option.{unwrap_or}
use Rattle.sources.proofs.Reading.{entry_or}
use Rattle.sources.proofs.questions.Source.entry_made.Goals as goal

pub returns : goal.returns
returns g c _ =
    c.unwrap_or.ensures ∙ ap (λ o. unwrap_or o (0, 0)) c.entry.ensures ∙ entry_or (g.Self.Source.meaning c.args.self.now) c.args.carrier c.args.index
