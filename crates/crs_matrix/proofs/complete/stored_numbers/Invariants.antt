use Rattle.std.proofs.Common.{◌≡◌, take, map, Some}
use Rattle.crs_graph.specs.Packed.{joined}
use Rattle.crs_matrix.specs.Completed.{stored_rows}
use Rattle.crs_matrix.specs.Stored.{cells_at}
use Rattle.crs_matrix.proofs.complete.stored_numbers.Given as goal

abbrev pub invariant-loop-lid : goal.invariant-loop-lid
invariant-loop-lid g l = map Some l.stored.items ≡ joined (take l.lid (stored_rows l.graph.cols l.graph.columns (map (cells_at l.values) l.places)))
