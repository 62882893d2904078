use Rattle.std.proofs.Common.{◌++◌, sym, ap, ◌∙◌, subst}
use Rattle.std.proofs.lemmas.List.{append_assoc}
use Rattle.std.specs.Vec.Iter.{into_iter_items}
use Rattle.gathered_rows.specs.Sorting.{AreSums}
use Rattle.gathered_rows.specs.Blocks.{cells_in, rows_before, AreAscending}
use Rattle.gathered_rows.proofs.Adding.{AreSums-append}
use Rattle.gathered_rows.proofs.Blocks.{cells_in-last, rows_before-parts, rows_before-sums, rows_before-next}
use Rattle.gathered_rows.proofs.sums.sums_of.Goals as goal

pub add_block-requires-clause-later : goal.add_block-requires-clause-later
add_block-requires-clause-later g c =
    let before = ap (λ bs. rows_before (cells_in c.loop-block.yielded) (cells_in bs)) (sym c.in-Some.ensures.steps.0) ∙ c.loop-block.invariant.before in
    let both = rows_before-parts (cells_in c.loop-block.yielded) c.in-Some.block.items _ before in
    rows_before-sums (cells_in c.loop-block.yielded) c.loop-block.sums.items c.in-Some.block.items c.loop-block.invariant.sums both.0

pub loop-block-preserved : goal.loop-block-preserved
loop-block-preserved g c =
    let step = c.in-Some.ensures.steps.0 in
    let done = c.loop-block.yielded in
    let rest = into_iter_items c.next.new.self in
    let before = ap (λ bs. rows_before (cells_in done) (cells_in bs)) (sym step) ∙ c.loop-block.invariant.before in
    let up = subst AreAscending step c.loop-block.invariant.rest in
    record {
      whole = ap (λ xs. xs ++ cells_in rest) (cells_in-last done c.in-Some.block) ∙ append_assoc (cells_in done) c.in-Some.block.items (cells_in rest) ∙ ap (λ bs. cells_in done ++ cells_in bs) (sym step) ∙ c.loop-block.invariant.whole;
      sums = subst (λ xs. AreSums g.S.Scalar.semiring xs c.add_block.new.sums.items) (sym (cells_in-last done c.in-Some.block))
          (AreSums-append g.met.S.Scalar.laws (cells_in done) c.in-Some.block.items c.loop-block.sums.items c.add_block.new.sums.items c.loop-block.invariant.sums c.in_ok-add_block.ensures);
      before = rows_before-next done rest c.in-Some.block before up;
      rest = up.1;
    }
