use Rattle.std.proofs.Common.{◌≡◌, length}
use Rattle.tables.specs.Indices.{AreBelow}
use Rattle.layers_bench.proofs.transfers.positions.Given as goal

abbrev pub invariant-loop-i : goal.invariant-loop-i
invariant-loop-i l = record {
  count : length l.list.items ≡ l.i;
  below : AreBelow l.count l.list.items;
}
