use Rattle.std.proofs.Common.{◌/◌, ◌<◌, arith}
use Rattle.numbers.proofs.Groups.{encoded_small, encoded_large}
use Rattle.sheetfile.proofs.Writing.{never_refused}
use Rattle.sheetfile.proofs.writer.put_number.Goals as goal

pub returns-then-n-lt128 : goal.returns-then-n-lt128
returns-then-n-lt128 c = rw (encoded_small c.args.n c.if-n-lt128.true) c.put.ensures.puts

pub returns-then-rest-lt128 : goal.returns-then-rest-lt128
returns-then-rest-lt128 c =
    rw (encoded_large c.args.n c.if-n-lt128.false) (rw (encoded_small (c.args.n / 128) c.if-rest-lt128.true) c.put-then-rest-lt128.ensures.puts)

pub returns-then-rest : goal.returns-then-rest
returns-then-rest c =
    let rest = c.args.n / 128 in
    let last : rest / 128 < 128 = omega (arith, c.if-rest.true) in
    rw (encoded_large c.args.n c.if-n-lt128.false) (rw (encoded_large rest c.if-rest-lt128.false) (rw (encoded_small (rest / 128) last) c.put-then-rest.ensures.puts))

pub returns-in_default : goal.returns-in_default
returns-in_default c = absurd (never_refused c.args.n c.in_default.field-0 c.requires c.in_default.ensures.value)
