use Rattle.std.proofs.Common.{rules, ◌≡◌, ◌+◌, ◌/◌, ◌%◌, [], ◌∷◌, ◌++◌, sym, ap, ◌∙◌, append_assoc}
use Rattle.numbers.specs.Groups.{encoded}
use Rattle.numbers.proofs.Groups.{encoded_large}
use Rattle.grids.proofs.groups.push_number.Goals as goal

pub loop-rest-preserved : goal.loop-rest-preserved
loop-rest-preserved c =
    let items = c.loop-rest.bytes.items in
    let n = c.loop-rest.rest in
    let pushed : c.push.new.self.items ≡ items ++ (128 + n % 128) ∷ [] = search rules in
    ap (λ ys. ys ++ encoded (n / 128)) pushed ∙ append_assoc items ((128 + n % 128) ∷ []) (encoded (n / 128)) ∙ ap (λ e. items ++ e) (sym (encoded_large n c.loop-rest-test.true)) ∙ c.loop-rest.invariant
