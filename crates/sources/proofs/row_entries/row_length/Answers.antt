use Rattle.std.proofs.Common.{ap, ◌∙◌}
use Rattle.std.specs.Option.{unwrap_or}
use Rattle.sources.proofs.Reading.{row_len_or_zero}
use Rattle.sources.proofs.row_entries.row_length.Goals as goal

pub returns : goal.returns
returns g c = c.unwrap_or.ensures ∙ ap (λ o. unwrap_or o 0) c.row_len.ensures ∙ row_len_or_zero (g.S.Source.meaning c.args.source.now) c.args.carrier
