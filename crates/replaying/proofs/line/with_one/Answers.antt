use Rattle.std.proofs.Common.{codes, arith, ap, sym, rules}
use Rattle.std.proofs.lemmas.Slice.Eq.{text_from_reads}
use Rattle.replaying.specs.Lines.{said_of_one}
use Rattle.replaying.proofs.line.with_one.Goals as goal

pub returns-in-summon : goal.returns-in-summon
returns-in-summon c = ap (λ w. said_of_one w c.args.n) (sym (text_from_reads c.args.word.now (codes "summon") (omega arith) (search rules)))

pub returns-in-settle : goal.returns-in-settle
returns-in-settle c = ap (λ w. said_of_one w c.args.n) (sym (text_from_reads c.args.word.now (codes "settle") (omega arith) (search rules)))

pub returns-in-holder : goal.returns-in-holder
returns-in-holder c = ap (λ w. said_of_one w c.args.n) (sym (text_from_reads c.args.word.now (codes "holder") (omega arith) (search rules)))

pub returns-in-standing : goal.returns-in-standing
returns-in-standing c = ap (λ w. said_of_one w c.args.n) (sym (text_from_reads c.args.word.now (codes "standing") (omega arith) (search rules)))
