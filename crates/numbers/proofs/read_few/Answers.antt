use Rattle.std.proofs.Common.{◌≡◌, ℕ, ◌+◌, ◌-◌, ◌*◌, ◌<◌, length, get_or, drop, Ok, sym, refl, ap, ◌∙◌, rules, arith}
use Rattle.std.proofs.lemmas.Bool.{ltb-true}
use Rattle.numbers.proofs.Reading.{group_before, group_last, read_is}
use Rattle.numbers.proofs.read_few.Goals as goal

pub returns-then-first-lt128 : goal.returns-then-first-lt128
returns-then-first-lt128 c x e =
    let bytes = c.args.bytes.now in
    let at = c.args.at in
    let a = c.from-first.result in
    let inside : c.args.at < length c.args.bytes.now = ltb-true c.args.at (length c.args.bytes.now) (sym c.in_ok-get.ensures.lookup.0) in
    let is : c.from-first.result ≡ get_or c.args.bytes.now c.args.at 0 = search rules in
    let same : (c.from-first.result, c.args.at + 1) ≡ x = cc in
    ap (λ (z : ℕ × ℕ). Ok z) (sym same)
    ∙ read_is bytes at a a (at + 1) (at + 1) (group_last bytes at a inside is 5 c.if-first-lt128.true) refl refl (omega arith)

pub returns-then-second-lt128 : goal.returns-then-second-lt128
returns-then-second-lt128 c x e =
    let bytes = c.args.bytes.now in
    let at = c.args.at in
    let a = c.from-first.result in
    let b = c.from-second.result in
    let in_a : c.args.at < length c.args.bytes.now = ltb-true c.args.at (length c.args.bytes.now) (sym c.in_ok-get.ensures.lookup.0) in
    let in_b : c.args.at + 1 < length c.args.bytes.now = ltb-true (c.args.at + 1) (length c.args.bytes.now) (sym c.in_ok-get-2.ensures.lookup.0) in
    let is_a : c.from-first.result ≡ get_or c.args.bytes.now c.args.at 0 = search rules in
    let is_b : c.from-second.result ≡ get_or c.args.bytes.now (c.args.at + 1) 0 = search rules in
    let same : (c.from-first.result - 128 + c.from-second.result * 128, c.args.at + 2) ≡ x = cc in
    let last = group_last bytes (at + 1) b in_b is_b 4 c.if-second-lt128.true in
    ap (λ (z : ℕ × ℕ). Ok z) (sym same)
    ∙ read_is bytes at (a - 128 + 128 * b) (a - 128 + b * 128) (at + 2) (at + 1 + 1)
    (group_before bytes at a in_a is_a 5 b (drop (at + 1 + 1) bytes) c.if-first-lt128.false c.if-second-eq0.false last) (omega arith) (omega arith) (omega arith)

pub returns-then-third-lt128 : goal.returns-then-third-lt128
returns-then-third-lt128 c x e =
    let bytes = c.args.bytes.now in
    let at = c.args.at in
    let a = c.from-first.result in
    let b = c.from-second.result in
    let d = c.from-third.result in
    let in_a : c.args.at < length c.args.bytes.now = ltb-true c.args.at (length c.args.bytes.now) (sym c.in_ok-get.ensures.lookup.0) in
    let in_b : c.args.at + 1 < length c.args.bytes.now = ltb-true (c.args.at + 1) (length c.args.bytes.now) (sym c.in_ok-get-2.ensures.lookup.0) in
    let in_d : c.args.at + 2 < length c.args.bytes.now = ltb-true (c.args.at + 2) (length c.args.bytes.now) (sym c.in_ok-get-3.ensures.lookup.0) in
    let is_a : c.from-first.result ≡ get_or c.args.bytes.now c.args.at 0 = search rules in
    let is_b : c.from-second.result ≡ get_or c.args.bytes.now (c.args.at + 1) 0 = search rules in
    let is_c : c.from-third.result ≡ get_or c.args.bytes.now (c.args.at + 2) 0 = search rules in
    let two : c.args.at + 1 + 1 ≡ c.args.at + 2 = omega arith in
    let is_d : c.from-third.result ≡ get_or c.args.bytes.now (c.args.at + 1 + 1) 0 = rw two is_c in
    let same : (c.from-first.result - 128 + (c.from-second.result - 128) * 128 + c.from-third.result * 128 * 128, c.args.at + 3) ≡ x = cc in
    let end = at + 1 + 1 + 1 in
    let last = group_last bytes (at + 1 + 1) d (omega arith) is_d 3 c.if-third-lt128.true in
    let rest = group_before bytes (at + 1) b in_b is_b 4 d (drop (at + 1 + 1 + 1) bytes) c.if-second-lt128.false (omega arith) last in
    ap (λ (z : ℕ × ℕ). Ok z) (sym same)
    ∙ read_is bytes at (a - 128 + 128 * (b - 128 + 128 * d)) (a - 128 + (b - 128) * 128 + d * 128 * 128) (at + 3) end
    (group_before bytes at a in_a is_a 5 (b - 128 + 128 * d) (drop (at + 1 + 1 + 1) bytes) c.if-first-lt128.false (omega arith) rest) (omega arith) (omega arith) (omega arith)
