use Rattle.std.proofs.Common.{◌≡◌, ◌++◌, true}
use Rattle.std.specs.Vec.Iter.{into_iter_items}
use Rattle.gathered_rows.specs.Sorting.{AreSums}
use Rattle.gathered_rows.specs.Blocks.{cells_in, rows_before, AreAscending}
use Rattle.gathered_rows.proofs.sums.sums_of.Given as goal

abbrev pub invariant-loop-block : goal.invariant-loop-block
invariant-loop-block g l = record {
  whole : cells_in l.yielded ++ cells_in (into_iter_items l.block-iterator) ≡ cells_in l.fn.blocks.items;
  sums : AreSums g.S.Scalar.semiring (cells_in l.yielded) l.sums.items;
  before : rows_before (cells_in l.yielded) (cells_in (into_iter_items l.block-iterator)) ≡ true;
  rest : AreAscending (into_iter_items l.block-iterator);
}
