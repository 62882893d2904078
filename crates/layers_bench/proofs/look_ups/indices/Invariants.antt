use Rattle.std.proofs.Common.{length, ◌≤◌, ◌*◌, ◌-◌}
use Rattle.layers_bench.proofs.look_ups.indices.Given as goal

abbrev pub invariant-loop-state : goal.invariant-loop-state
invariant-loop-state l = length l.gids.items ≤ 2 * l.count

abbrev pub decreases-loop-state : goal.decreases-loop-state
decreases-loop-state l = 2 * l.count - length l.gids.items
