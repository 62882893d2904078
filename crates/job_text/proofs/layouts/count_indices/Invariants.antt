use Rattle.std.proofs.Common.{◌≡◌, ◌+◌, ◌*◌, ◌≤◌, length, drop}
use Rattle.std.specs.List.{concat}
use Rattle.job_text.proofs.layouts.count_indices.Given as goal

abbrev pub invariant-loop-rank : goal.invariant-loop-rank
invariant-loop-rank l = record {
  small : l.count ≤ l.rank * 4294967296;
  within : l.rank ≤ 32;
  rest : l.count + length (concat (drop l.rank l.layout.lists)) ≡ length (concat l.layout.lists);
}
