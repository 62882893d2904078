use Rattle.std.proofs.Common.{◌≡◌, take}
use Rattle.std.specs.List.{filter}
use Rattle.map_core.specs.Layouts.{stands}
use Rattle.crs_graph.proofs.column_order.own_columns.Given as goal

abbrev pub invariant-loop-lid : goal.invariant-loop-lid
invariant-loop-lid l = l.own.items ≡ filter (λ g. stands g l.columns) (take l.lid l.domain)
