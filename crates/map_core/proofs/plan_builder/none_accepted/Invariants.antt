use Rattle.std.proofs.Common.{◌≡◌, map, None}
use Rattle.std.specs.List.{range_with_len}
use Rattle.map_core.proofs.plan_builder.none_accepted.Given as goal

abbrev pub invariant-loop : goal.invariant-loop
invariant-loop l = l.accepted.items ≡ map (λ _. None) (range_with_len 0 l.counter)
