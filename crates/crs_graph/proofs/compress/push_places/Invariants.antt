use Rattle.std.proofs.Common.{◌≡◌, ◌++◌, take}
use Rattle.map_core.specs.Classes.{places}
use Rattle.crs_graph.proofs.compress.push_places.Given as goal

abbrev pub invariant-loop-local : goal.invariant-loop-local
invariant-loop-local l = l.order.items ≡ l.initial.order.items ++ places l.row (take l.local-index l.locals)
