use Rattle.std.proofs.Common.{◌≡◌}
use Rattle.matrices_bench.proofs.digits.Given as goal

abbrev pub invariant-loop-lid : goal.invariant-loop-lid
invariant-loop-lid l = record {
  map : l.vector.map ≡ l.map.value;
  columns : l.vector.columns ≡ 1;
}
