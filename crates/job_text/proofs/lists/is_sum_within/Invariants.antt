use Rattle.std.proofs.Common.{◌≡◌, ◌+◌, ◌≤◌, drop, sum}
use Rattle.job_text.proofs.lists.is_sum_within.Given as goal

abbrev pub invariant-loop-count : goal.invariant-loop-count
invariant-loop-count l = record {
  left : l.left ≤ l.most;
  rest : l.most + sum (drop l.count-index l.counts) ≡ l.left + sum l.counts;
}
