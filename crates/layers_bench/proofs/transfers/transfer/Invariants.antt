use Rattle.std.proofs.Common.{◌≡◌}
use Rattle.layers_bench.proofs.transfers.transfer.Given as goal

abbrev pub invariant-loop : goal.invariant-loop
invariant-loop l = record {
  map : l.y.map ≡ l.initial.y.map;
  columns : l.y.columns ≡ l.initial.y.columns;
}
