use Rattle.std.proofs.Common.{◌≡◌, [], map}
use Rattle.std.specs.List.{range_with_len}
use Rattle.map_core.specs.Parts.{lists_of}
use Rattle.map_core.proofs.parts.empty_lists.Given as goal

abbrev pub invariant-loop : goal.invariant-loop
invariant-loop g l = lists_of l.lists.items ≡ map (λ _. []) (range_with_len 0 l.counter)
