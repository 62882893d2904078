use Rattle.std.proofs.Common.{◌≡◌, take}
use Rattle.map_core.specs.Classes.{places}
use Rattle.crs_graph.proofs.compress.listed_places.Given as goal

abbrev pub invariant-loop-gid : goal.invariant-loop-gid
invariant-loop-gid l = l.found.items ≡ places l.cols (take l.gid-index l.gids)
