use Rattle.std.proofs.Common.{◌≡◌, ◌<◌, drop, length}
use Rattle.std.specs.List.{concat, list_all}
use Rattle.map_core.specs.Layouts.{stands}
use Rattle.job_text.proofs.layouts.has_list.Given as goal

abbrev pub invariant-loop-place : goal.invariant-loop-place
invariant-loop-place l = record {
  known : l.near < length l.layout.lists;
  rest : list_all (λ g. stands g (concat l.layout.lists)) (drop l.place l.list) ≡ list_all (λ g. stands g (concat l.layout.lists)) l.list;
}
