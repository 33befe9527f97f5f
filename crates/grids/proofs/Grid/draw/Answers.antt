use Rattle.std.proofs.Common.{◌≡◌, ℕ, ◌+◌, ◌<◌, ◌≤◌, length, slice_index, ◌∙◌, arith}
use Rattle.std.proofs.lemmas.Bool.{le-ltb}
use Rattle.std.proofs.lemmas.List.{length-set}
use Rattle.grids.specs.Worths.{RowWithin}
use Rattle.grids.proofs.Drawn.{each_set, grid_is, rows_more}
use Rattle.grids.proofs.Grid.draw.Goals as goal

pub loop-carrier-preserved : goal.loop-carrier-preserved
loop-carrier-preserved c =
    let l = c.loop-carrier in
    let r = c.draw_row in
    let inside : c.loop-carrier.carrier < length c.loop-carrier.row-items = omega (arith, l.invariant.long, c.loop-carrier-test.true) in
    let more = rows_more l.row-items l.carrier (1 + c.below.result) (1 + c.below-2.result) (1 + c.below-ceiling.result) c.below-ceiling.new.self.state l.draw.state r.new.draw.state r.result inside l.invariant.rows l.invariant.state r.ensures.value r.ensures.state in
    record {
      long = length-set l.row-items l.carrier r.result ∙ l.invariant.long;
      within = each_set (λ _ row. RowWithin (1 + c.below-2.result) (1 + c.below-ceiling.result) row) l.row-items l.carrier r.result inside r.ensures.within l.invariant.within;
      empty = each_set (λ i row. (j : ℕ) → 1 + c.below.result ≤ i → slice_index row j ≡ 0) l.row-items l.carrier r.result inside (λ j past. r.ensures.empty (le-ltb l.carrier (1 + c.below.result) past) j) (λ i j past. l.invariant.empty i j past);
      rows = more.0;
      state = more.1;
    }

pub returns-clause-drawn : goal.returns-clause-drawn
returns-clause-drawn c =
    let l = c.loop-carrier in
    grid_is c.args.most c.args.draw.now.state _ _ _ c.below.result c.below-2.result c.below-ceiling.result l.carrier l.draw.state l.row-items c.below.ensures.state c.below-2.ensures.state c.below-ceiling.ensures.state
    c.below.ensures.value c.below-2.ensures.value c.below-ceiling.ensures.value (omega (arith, l.auto.carrier-end, c.loop-carrier-test.false)) l.invariant.long l.invariant.rows l.invariant.state
