use Rattle.gathered_rows.proofs.Sorted.{none_after-at}
use Rattle.gathered_rows.proofs.Adding.{AreSums-none_after, AreSums-more}
use Rattle.gathered_rows.proofs.sums.add_sorted.Goals as goal

pub add_cell-requires-clause-last : goal.add_cell-requires-clause-last
add_cell-requires-clause-last g c = AreSums-none_after c.cell-item.result c.loop-cell.invariant (none_after-at c.args.sums.now.items c.args.sorted.now c.loop-cell.cell-index c.cell-item.result c.loop-cell-test.true c.cell-item.is c.requires.ascending)

pub loop-cell-preserved : goal.loop-cell-preserved
loop-cell-preserved g c = AreSums-more g.met.S.Scalar.laws c.args.sums.now.items c.args.sorted.now c.loop-cell.cell-index c.cell-item.result _ _ c.loop-cell-test.true c.cell-item.is c.loop-cell.invariant c.in_ok-add_cell.ensures
