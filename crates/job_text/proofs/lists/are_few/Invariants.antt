use Rattle.std.proofs.Common.{◌≡◌, ◌+◌, ◌≤◌, drop, length, map}
use Rattle.std.specs.List.{concat}
use Rattle.job_text.proofs.lists.are_few.Given as goal

abbrev pub invariant-loop-list : goal.invariant-loop-list
invariant-loop-list l = record {
  left : l.left ≤ l.most;
  rest : l.most + length (concat (map (λ g. g.items) (drop l.list-index l.lists))) ≡ l.left + length (concat (map (λ g. g.items) l.lists));
}
