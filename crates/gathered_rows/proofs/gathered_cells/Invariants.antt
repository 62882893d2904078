use Rattle.std.specs.List.Sorted.{IsPermutation}
use Rattle.model_defs.specs.FileMatrix.{entry_numbers}
use Rattle.gathered_rows.specs.Blocks.{cells_in, AreOwned}
use Rattle.gathered_rows.proofs.Gathered.{dealt_cells}
use Rattle.gathered_rows.proofs.gathered_cells.Given as goal

abbrev pub invariant-loop-rank : goal.invariant-loop-rank
invariant-loop-rank g l = record {
  owned : AreOwned l.ranks l.file.rows l.blocks.items;
  cells : IsPermutation (dealt_cells (entry_numbers g.S.Scalar.semiring g.S.Scalar.conversions l.file.mirror) l.ranks l.rank l.file.lines.items) (cells_in l.blocks.items);
}
