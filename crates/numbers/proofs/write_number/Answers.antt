use Rattle.std.proofs.Common.{◌+◌, Ok, sym, ap, ◌∙◌, arith}
use Rattle.std.proofs.lemmas.Grind.{common_steps}
use Rattle.numbers.specs.Reading.{read_at}
use Rattle.numbers.proofs.Exact.{written_reads}
use Rattle.numbers.proofs.write_number.Goals as goal

pub returns-clause-read_back : goal.returns-clause-read_back
returns-clause-read_back c =
    let at = c.args.at in
    let n = c.args.n in
    let is = c.number_len-len.ensures.value in
    ap (λ bytes. read_at bytes at) (grind (arith, common_steps)) ∙ written_reads c.args.out.now at n (omega (arith, is)) (omega (arith, is)) ∙ ap (λ m. Ok (n, at + m)) (sym is)
