use Rattle.std.proofs.Common.{◌≡◌, take}
use Rattle.rank_plans.proofs.indices.indices.Given as goal

abbrev pub invariant-loop-lid : goal.invariant-loop-lid
invariant-loop-lid l = l.gids.items ≡ take l.lid l.map
