use Rattle.std.proofs.Common.{◌≡◌, drop, take}
use Rattle.map_core.specs.Classes.{first_lacked, places}
use Rattle.map_core.proofs.plan_builder.places_in.Given as goal

abbrev pub invariant-loop-gid : goal.invariant-loop-gid
invariant-loop-gid l = record {
  places : l.found.items ≡ places l.held (take l.gid-index l.gids);
  held : first_lacked l.held l.gids ≡ first_lacked l.held (drop l.gid-index l.gids);
}
