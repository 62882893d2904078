use Rattle.std.proofs.Common.{◌≡◌, ◌≤◌, All, length, vec_len}
use Rattle.layers_bench.proofs.plans.all_finished.Given as goal

abbrev pub invariant-loop-import : goal.invariant-loop-import
invariant-loop-import l = record {
  few : length l.imports.items ≤ 4;
  imports : All (λ import. import.ranks ≡ 4) l.imports.items;
  plans : All (λ plan. plan.ranks ≡ 4) l.plans.items;
}

abbrev pub decreases-loop-import : goal.decreases-loop-import
decreases-loop-import l = vec_len l.imports
