use Rattle.std.proofs.Common.{◌≡◌, [], map, take}
use Rattle.crs_graph.specs.Fills.{columns_of}
use Rattle.crs_graph.proofs.fill.GraphFill.new.Given as goal

abbrev pub invariant-loop : goal.invariant-loop
invariant-loop l = columns_of l.columns.items ≡ map (λ _. []) (take l.counter l.rows.value)
