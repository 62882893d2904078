use Rattle.std.proofs.Common.{◌≡◌, take}
use Rattle.crs_matrix.specs.Rows.{row_table}
use Rattle.rank_values.specs.Vectors.{lines_table}
use Rattle.rank_matrices.proofs.fills.add_lines.Given as goal

abbrev pub invariant-loop-line : goal.invariant-loop-line
invariant-loop-line g l = record {
  rows : l.fill.rows ≡ l.fn.fill.rows;
  table : row_table l.fill ≡ lines_table g.S.Scalar.semiring g.S.Scalar.conversions (take l.line-index l.lines);
}
