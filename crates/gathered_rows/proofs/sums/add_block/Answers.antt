use Rattle.std.proofs.lemmas.Result.{on_ok_weaker}
use Rattle.gathered_rows.proofs.Adding.{AreSums-IsPermutation}
use Rattle.gathered_rows.proofs.Blocks.{AreSorted-later}
use Rattle.gathered_rows.proofs.sums.add_block.Goals as goal

pub add_sorted-requires-clause-ascending : goal.add_sorted-requires-clause-ascending
add_sorted-requires-clause-ascending g c =
    rw (c.in_ok-reserve.ensures.items, c.deref.ensures.value)
    (AreSorted-later c.args.sums.now.items c.args.block.items c.sort_cells.new.cells.items c.requires.order c.requires.later c.in_ok-sort_cells.ensures.permutation c.in_ok-sort_cells.ensures.sorted)

pub returns : goal.returns
returns g c =
    on_ok_weaker c.add_sorted.result
    (λ h. AreSums-IsPermutation g.met.S.Scalar.laws c.args.sums.now.items c.args.block.items c.sort_cells.new.cells.items c.add_sorted.new.sums.items c.in_ok-sort_cells.ensures.permutation
    (rw (c.in_ok-reserve.ensures.items, c.deref.ensures.value) at h))
    c.add_sorted.ensures
