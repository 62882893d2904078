use Rattle.std.proofs.Common.{◌++◌, take}
use Rattle.gathered_rows.specs.Sorting.{AreSums}
use Rattle.gathered_rows.proofs.sums.add_sorted.Given as goal

abbrev pub invariant-loop-cell : goal.invariant-loop-cell
invariant-loop-cell g l = AreSums g.S.Scalar.semiring (l.initial.sums.items ++ take l.cell-index l.sorted) l.sums.items
