use Rattle.std.proofs.Common.{◌≡◌, take}
use Rattle.tables.specs.Tables.{table_of}
use Rattle.crs_matrix.specs.Rows.{row_table}
use Rattle.matrix_twins.proofs.fill.filled.Given as goal

abbrev pub invariant-loop-at : goal.invariant-loop-at
invariant-loop-at g l = record {
  rows : l.fill.rows ≡ l.fn.rows.value;
  table : row_table l.fill ≡ table_of g.S.Scalar.semiring (take l.at l.cells);
}
