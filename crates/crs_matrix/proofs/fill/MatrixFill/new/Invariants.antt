use Rattle.std.proofs.Common.{◌≡◌, [], map, take}
use Rattle.crs_matrix.specs.Stored.{places_of}
use Rattle.crs_matrix.proofs.fill.MatrixFill.new.Given as goal

abbrev pub invariant-loop : goal.invariant-loop
invariant-loop g l = places_of l.places.items ≡ map (λ _. []) (take l.counter l.rows.value)
