use Rattle.std.proofs.Common.{◌≡◌, ◌++◌, nat_eq, take}
use Rattle.indexmap.specs.IndexMap.{IsUnique}
use Rattle.directory.specs.Directories.{entered, found_in, AreNew}
use Rattle.directory.proofs.directory_of.enter.Given as goal

abbrev pub invariant-loop-gid : goal.invariant-loop-gid
invariant-loop-gid l = record {
  entries : l.owners.entries ≡ l.fn.owners.entries ++ entered l.from (take l.gid-index l.gids);
  unique : IsUnique nat_eq l.owners;
  new : AreNew (found_in l.fn.owners.entries) (take l.gid-index l.gids);
}
