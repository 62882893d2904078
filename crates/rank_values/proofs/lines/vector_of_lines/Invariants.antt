use Rattle.std.proofs.Common.{◌≡◌, take}
use Rattle.rank_values.specs.Vectors.{global_table, lines_on}
use Rattle.rank_values.proofs.lines.vector_of_lines.Given as goal

abbrev pub invariant-loop-line : goal.invariant-loop-line
invariant-loop-line g l = record {
  same_map : l.vector.map ≡ l.initial.vector.map;
  same_columns : l.vector.columns ≡ l.initial.vector.columns;
  cells : global_table l.vector ≡ lines_on g.S.Scalar.semiring g.S.Scalar.conversions l.initial.vector.map l.initial.vector.columns (take l.line-index l.lines);
}
