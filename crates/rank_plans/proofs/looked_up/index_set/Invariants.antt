use Rattle.std.proofs.Common.{◌≡◌, take}
use Rattle.rank_plans.proofs.looked_up.index_set.Given as goal

abbrev pub invariant-loop-gid : goal.invariant-loop-gid
invariant-loop-gid l = l.set.keys ≡ take l.gid-index l.gids
