use Rattle.std.proofs.Common.{◌≡◌, ◌*◌, All, length}
use Rattle.layers_bench.proofs.plans.plans_of.Given as goal

abbrev pub invariant-loop-me : goal.invariant-loop-me
invariant-loop-me l = record {
  count : length l.imports.items ≡ l.me;
  letters : length l.letters.items ≡ 4 * l.me;
  imports : All (λ import. import.ranks ≡ 4) l.imports.items;
}
