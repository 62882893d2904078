use Rattle.std.proofs.Common.{◌≡◌, take}
use Rattle.rank_core.proofs.lists.indices_of.Given as goal

abbrev pub invariant-loop-lid : goal.invariant-loop-lid
invariant-loop-lid l = l.gids.items ≡ take l.lid l.map
