use Rattle.std.proofs.Common.{◌≡◌, ℕ, ◌+◌, ◌<◌, true, false, length, slice_index, arith, below_more, sym, ◌∙◌}
use Rattle.std.proofs.lemmas.Bool.{or_left}
use Rattle.std.proofs.lemmas.Bool.Decides.{nat_tests}
use Rattle.refusals.specs.declared.Refusal.TheVariants.{JobOutOfOrder, WorthOutside}
use Rattle.sources.specs.Sheets.{starts_at, in_order, refusal_at}
use Rattle.sources.proofs.Refusing.{least_first, least_next, ordered_as, passed_on, refused_first, refused_nowhere}
use Rattle.sources.proofs.filling_checks.entry_refusal.Goals as goal
use Rattle.sources.proofs.filling_checks.entry_refusal.Goals.{then-entry-least+else-not-starts_at, else-entry-least, then-entry-eq0-via-then-entry-eq0, then-entry-eq0-via-else-entry-eq0+then-entry-heading-2}

pub loop-k-init : goal.loop-k-init
loop-k-init c = ((λ j l. absurd (omega arith)), least_first c.args.starts.now c.args.entries.now c.requires.begins, (λ j l. absurd (omega arith)))

pub returns-then-not-starts_at : goal.returns-then-not-starts_at
returns-then-not-starts_at c =
    let o : false ≡ in_order c.args.starts.now c.args.entries.now c.loop-k.k =
    ordered_as c.args.starts.now c.args.entries.now c.loop-k.k c.loop-k.least false c.loop-k.invariant.1 c.if-entry-least.true (sym c.if-not-starts_at.true ∙ c.starts_at.ensures) in
    refused_first (refusal_at c.args.heading c.args.starts.now c.args.entries.now) (length c.args.entries.now) c.loop-k.k JobOutOfOrder c.loop-k.invariant.0 c.loop-k-test.true
    (grind (arith, nat_tests))

pub returns-then-entry-heading : goal.returns-then-entry-heading
returns-then-entry-heading c =
    refused_first (refusal_at c.args.heading c.args.starts.now c.args.entries.now) (length c.args.entries.now) c.loop-k.k JobOutOfOrder c.loop-k.invariant.0 c.loop-k-test.true
    (grind (arith, nat_tests))

pub returns-then-entry-eq0 : goal.returns-then-entry-eq0
returns-then-entry-eq0 c =
    let o : in_order c.args.starts.now c.args.entries.now c.loop-k.k ≡ true =
    elim c.if-entry-least.branch [
      | then-entry-least+else-not-starts_at w ↦ or_left (starts_at c.args.starts.now c.loop-k.k) _ (sym w.starts_at.ensures ∙ w.if-not-starts_at.false)
      | else-entry-least w ↦ c.loop-k.invariant.1.enough _ w.if-entry-least.false
    ] in
    refused_first (refusal_at c.args.heading c.args.starts.now c.args.entries.now) (length c.args.entries.now) c.loop-k.k WorthOutside c.loop-k.invariant.0 c.loop-k-test.true
    (elim c.then-entry-eq0.branch [
      | then-entry-eq0-via-then-entry-eq0 w ↦ grind (arith, nat_tests)
      | then-entry-eq0-via-else-entry-eq0+then-entry-heading-2 w ↦ grind (arith, nat_tests)
    ])

pub loop-k-preserved : goal.loop-k-preserved
loop-k-preserved c =
    let o : in_order c.args.starts.now c.args.entries.now c.loop-k.k ≡ true =
    elim c.if-entry-least.branch [
      | then-entry-least+else-not-starts_at w ↦ or_left (starts_at c.args.starts.now c.loop-k.k) _ (sym w.starts_at.ensures ∙ w.if-not-starts_at.false)
      | else-entry-least w ↦ c.loop-k.invariant.1.enough _ w.if-entry-least.false
    ] in
    let passed : (j : ℕ) → j < c.if-entry-least.next → slice_index c.args.starts.now j < c.loop-k.k + 1 =
    elim c.if-entry-least.branch [
      | then-entry-least+else-not-starts_at w ↦ λ j l. passed_on c.args.starts.now c.loop-k.next w.start_from-next.result c.loop-k.k c.loop-k.invariant.2 w.start_from-next.ensures.passed j (omega (arith, w.next-is))
      | else-entry-least w ↦ λ j l. omega (arith, w.next-is, c.loop-k.invariant.2 j)
    ] in (
      below_more _ _ c.loop-k.invariant.0 (grind (arith, nat_tests)),
      least_next c.args.starts.now c.args.entries.now c.loop-k.k,
      passed,
    )

pub returns : goal.returns
returns c =
    refused_nowhere (refusal_at c.args.heading c.args.starts.now c.args.entries.now) (length c.args.entries.now) c.loop-k.k c.loop-k.invariant.0 c.loop-k-test.false
