use Rattle.std.proofs.Common.{◌≡◌, take}
use Rattle.crs_graph.specs.Fills.{columns_of}
use Rattle.crs_graph.proofs.fill.packed_rows.Given as goal

abbrev pub invariant-loop-row : goal.invariant-loop-row
invariant-loop-row l = l.packed ≡ columns_of (take l.row-index l.rows)
