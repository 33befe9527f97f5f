use Rattle.std.proofs.Common.{◌≡◌, ℕ, ◌+◌, ◌-◌, ◌*◌, ◌^◌, ◌<◌, ◌≤◌, List, length, drop, Ok, Err, sym, refl, ap, ◌∙◌, pow-suc, add-one, arith}
use Rattle.std.proofs.lemmas.Nat.{mul-le}
use Rattle.std.proofs.lemmas.List.{length-drop}
use Rattle.refusals.specs.declared.Refusal.{Refusal}
use Rattle.refusals.specs.declared.Refusal.TheVariants.{NumberCut, NumberTooLong, NumberPadded}
use Rattle.refusals.specs.declared.Fault.{Fault}
use Rattle.refusals.specs.Faults.{fault_at}
use Rattle.numbers.specs.Groups.{decoded_in}
use Rattle.numbers.specs.Reading.{placed, read_at}
use Rattle.numbers.proofs.Exact.{exactly}
use Rattle.numbers.proofs.Reading.{after, after_none, after_more, after_padded, at_end, at_last, at_more, after_last, pow_le, groups_few, few, group_inside}
use Rattle.numbers.proofs.read_any.Goals as goal

pub loop-k-init : goal.loop-k-init
loop-k-init c = (refl, omega arith, sym (after_none (decoded_in 6 (drop c.args.at c.args.bytes.now))))

-- what is answered where no number could be read
refused : (bytes : List ℕ) (at : ℕ) (e : Refusal) (fault : Fault) → fault ≡ fault_at e at → decoded_in 6 (drop at bytes) ≡ Err e
    → Err fault ≡ read_at bytes at
refused bytes at e fault is read = ap Err is ∙ sym (ap (placed bytes at) read)

-- a group times what it counts for
room : (b s k : ℕ) → b < 128 → s ≡ 128 ^ k → k ≤ 6 → b * s ≤ 127 * 2 ^ 42
room b s k small is few = mul-le b s 127 (2 ^ 42) (omega arith) (omega (arith, pow_le k few))

pub returns-then-is_padded : goal.returns-then-is_padded
returns-then-is_padded c =
    let bytes = c.args.bytes.now in
    let at = c.args.at in
    let k = c.loop-k.k in
    let b = c.from-group.result in
    let e = at_last bytes c.groups_from-groups.result.now at c.groups_from-groups.ensures k c.loop-k-test.true b c.from-group.ensures c.if-group-lt128.true in
    let v = refused bytes at NumberPadded c.at.result c.at.ensures
    (c.loop-k.invariant.2 ∙ ap (after k c.loop-k.value) e
    ∙ after_padded k c.loop-k.value b (drop (k + 1) (drop at bytes)) (sym c.is_padded.ensures ∙ c.if-is_padded.true)) in
    record { value = v; exact = exactly bytes at (Err c.at.result) c.type_inv.bytes v }

pub overflow_mul-result : goal.overflow_mul-result
overflow_mul-result c =
    let k6 = few c.args.bytes.now c.groups_from-groups.result.now c.args.at c.groups_from-groups.ensures c.loop-k.k c.loop-k-test.true in
    omega (arith, room c.from-group.result c.loop-k.scale c.loop-k.k c.if-group-lt128.true c.loop-k.invariant.0 (omega arith))

pub overflow_add-result : goal.overflow_add-result
overflow_add-result c =
    let k6 = few c.args.bytes.now c.groups_from-groups.result.now c.args.at c.groups_from-groups.ensures c.loop-k.k c.loop-k-test.true in
    omega (arith, room c.from-group.result c.loop-k.scale c.loop-k.k c.if-group-lt128.true c.loop-k.invariant.0 (omega arith), pow_le c.loop-k.k (omega arith), c.loop-k.invariant.0, c.loop-k.invariant.1)

pub returns-then-group-lt128 : goal.returns-then-group-lt128
returns-then-group-lt128 c =
    let bytes = c.args.bytes.now in
    let at = c.args.at in
    let k = c.loop-k.k in
    let b = c.from-group.result in
    let rest = drop (c.loop-k.k + 1) (drop c.args.at c.args.bytes.now) in
    let inside = group_inside bytes c.groups_from-groups.result.now at c.groups_from-groups.ensures k c.loop-k-test.true in
    let e = at_last bytes c.groups_from-groups.result.now at c.groups_from-groups.ensures k c.loop-k-test.true b c.from-group.ensures c.if-group-lt128.true in
    let next : length bytes - length rest ≡ at + k + 1 = omega (arith, length-drop (k + 1) (drop at bytes), length-drop at bytes) in
    let whole : decoded_in 6 (drop at bytes) ≡ Ok (c.loop-k.value + b * 128 ^ k, rest) =
    c.loop-k.invariant.2 ∙ ap (after k c.loop-k.value) e ∙ after_last k c.loop-k.value b rest (sym c.is_padded.ensures ∙ c.if-is_padded.false) in
    let v : Ok (c.loop-k.value + b * c.loop-k.scale, at + k + 1) ≡ read_at bytes at =
    ap (λ s. Ok (c.loop-k.value + b * s, at + k + 1)) c.loop-k.invariant.0
    ∙ ap (λ m. Ok (c.loop-k.value + b * 128 ^ k, m)) (sym next) ∙ sym (ap (placed bytes at) whole) in
    record { value = v; exact = exactly bytes at (Ok (c.loop-k.value + b * c.loop-k.scale, at + k + 1)) c.type_inv.bytes v }

-- the same of a group that another follows
room-more : (b s k : ℕ) → b < 256 → s ≡ 128 ^ k → k ≤ 6 → (b - 128) * s ≤ 127 * 2 ^ 42
room-more b s k small is few = room (b - 128) s k (omega arith) is few

pub overflow_mul-value : goal.overflow_mul-value
overflow_mul-value c =
    let k6 = few c.args.bytes.now c.groups_from-groups.result.now c.args.at c.groups_from-groups.ensures c.loop-k.k c.loop-k-test.true in
    omega (arith, room-more c.from-group.result c.loop-k.scale c.loop-k.k (omega (arith, c.from-group.ensures, c.type_inv.groups c.loop-k.k)) c.loop-k.invariant.0 (omega arith))

pub overflow_add-value : goal.overflow_add-value
overflow_add-value c =
    let k6 = few c.args.bytes.now c.groups_from-groups.result.now c.args.at c.groups_from-groups.ensures c.loop-k.k c.loop-k-test.true in
    omega (arith, room-more c.from-group.result c.loop-k.scale c.loop-k.k (omega (arith, c.from-group.ensures, c.type_inv.groups c.loop-k.k)) c.loop-k.invariant.0 (omega arith), pow_le c.loop-k.k (omega arith), c.loop-k.invariant.0, c.loop-k.invariant.1)

pub overflow_mul-scale : goal.overflow_mul-scale
overflow_mul-scale c =
    let k6 = few c.args.bytes.now c.groups_from-groups.result.now c.args.at c.groups_from-groups.ensures c.loop-k.k c.loop-k-test.true in
    omega (arith, pow_le c.loop-k.k (omega arith), c.loop-k.invariant.0)

pub loop-k-preserved : goal.loop-k-preserved
loop-k-preserved c =
    let bytes = c.args.bytes.now in
    let at = c.args.at in
    let k = c.loop-k.k in
    let b = c.from-group.result in
    let s = c.loop-k.scale in
    let is = c.loop-k.invariant.0 in
    let byte : b < 256 = omega (arith, c.from-group.ensures, c.type_inv.groups c.loop-k.k) in
    let m : (b - 128) * s ≤ 127 * s = mul-le (b - 128) s 127 s (omega arith) (omega arith) in
    let e = at_more bytes c.groups_from-groups.result.now at c.groups_from-groups.ensures k c.loop-k-test.true b c.from-group.ensures c.if-group-lt128.false in (
      rw (add-one, pow-suc 128 k) (ap (λ p. p * 128) is),
      omega (arith, m, c.loop-k.invariant.1),
      rw is (c.loop-k.invariant.2 ∙ ap (after k c.loop-k.value) e ∙ after_more k c.loop-k.value b (decoded_in (6 - (k + 1)) (drop (k + 1) (drop at bytes))) c.if-group-lt128.false),
    )

pub returns-then-groups-lt-MOST_GROUPS : goal.returns-then-groups-lt-MOST_GROUPS
unfolding after
returns-then-groups-lt-MOST_GROUPS c =
    let bytes = c.args.bytes.now in
    let at = c.args.at in
    let fault = c.at-then-groups-lt-MOST_GROUPS in
    let e = at_end bytes c.groups_from-groups.result.now at c.groups_from-groups.ensures c.loop-k.k (omega arith) c.loop-k-test.false in
    let v = refused bytes at NumberCut fault.result fault.ensures (c.loop-k.invariant.2 ∙ ap (after c.loop-k.k c.loop-k.value) e) in
    record { value = v; exact = exactly bytes at (Err fault.result) c.type_inv.bytes v }

pub returns : goal.returns
unfolding after decoded_in
returns c =
    let bytes = c.args.bytes.now in
    let at = c.args.at in
    let k : c.loop-k.k ≡ 6 = omega (arith, groups_few bytes c.groups_from-groups.result.now at c.groups_from-groups.ensures) in
    let e : decoded_in (6 - c.loop-k.k) (drop c.loop-k.k (drop at bytes)) ≡ Err NumberTooLong = rw k in
    let v = refused bytes at NumberTooLong c.at-2.result c.at-2.ensures (c.loop-k.invariant.2 ∙ ap (after c.loop-k.k c.loop-k.value) e) in
    record { value = v; exact = exactly bytes at (Err c.at-2.result) c.type_inv.bytes v }
