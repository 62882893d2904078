use Rattle.std.proofs.Common.{◌≡◌, true, replicate}
use Rattle.map_core.specs.Classes.{indices_at}
use Rattle.map_core.specs.Plans.{export_list}
use Rattle.combine_modes.specs.Modes.{gathered}
use Rattle.vector_moves.specs.Rows.{by_index, rows_of}
use Rattle.vector_moves.proofs.rounds.transfer_often.Given as goal

abbrev pub invariant-loop : goal.invariant-loop
invariant-loop g l = record {
  same_map : l.y.map ≡ l.initial.y.map;
  same_columns : l.y.columns ≡ l.initial.y.columns;
  pool : l.pool ≡ l.initial.pool;
  rows : by_index l.y ≡ gathered g.S.Scalar.semiring l.mode true (by_index l.initial.y) (replicate l.counter (rows_of l.x (indices_at l.x.map (export_list l.sender.plan l.to))));
}
