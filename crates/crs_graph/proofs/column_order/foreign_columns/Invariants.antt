use Rattle.std.proofs.Common.{◌≡◌, take}
use Rattle.crs_graph.specs.ColumnMaps.{foreign}
use Rattle.crs_graph.proofs.column_order.foreign_columns.Given as goal

abbrev pub invariant-loop-place : goal.invariant-loop-place
invariant-loop-place l = l.others.items ≡ foreign l.domain (take l.place l.columns) (take l.place l.owners)
