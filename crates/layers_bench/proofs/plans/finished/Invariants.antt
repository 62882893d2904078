use Rattle.std.proofs.Common.{◌≡◌}
use Rattle.layers_bench.proofs.plans.finished.Given as goal

abbrev pub invariant-loop-from : goal.invariant-loop-from
invariant-loop-from l = l.import.ranks ≡ 4
