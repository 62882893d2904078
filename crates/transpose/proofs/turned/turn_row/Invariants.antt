use Rattle.std.proofs.Common.{◌≡◌, take}
use Rattle.map_core.specs.Layouts.{local_index}
use Rattle.crs_matrix.specs.Matrices.{number_at_place}
use Rattle.crs_matrix.specs.Rows.{local_table}
use Rattle.transpose.specs.Columns.{with_column}
use Rattle.transpose.proofs.Transposed.{only_at}
use Rattle.transpose.proofs.turned.turn_row.Given as goal

abbrev pub invariant-loop-at : goal.invariant-loop-at
invariant-loop-at g l = record {
  rows : l.target.rows ≡ l.fn.target.rows;
  column : local_table l.target ≡ with_column g.S.Scalar.semiring (local_table l.fn.target) l.gid (only_at (λ i. number_at_place l.numbers (local_index l.columns i)) (take l.at l.columns));
}
