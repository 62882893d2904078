use Rattle.std.proofs.Common.{◌≡◌, take, nat_eq}
use Rattle.indexmap.specs.IndexSet.{IsUnique}
use Rattle.map_core.proofs.local_map.LocalMap.from_list.Given as goal

abbrev pub invariant-loop-gid : goal.invariant-loop-gid
invariant-loop-gid l = record {
  kept : l.set.keys ≡ take l.gid-index l.gids;
  unique : IsUnique nat_eq l.set;
}
