use Rattle.std.proofs.Common.{◌≡◌, take, map}
use Rattle.crs_matrix.specs.Stored.{columns_at}
use Rattle.crs_matrix.proofs.complete.packed_columns.Given as goal

abbrev pub invariant-loop-lid : goal.invariant-loop-lid
invariant-loop-lid l = l.packed ≡ map columns_at (take l.lid l.rows)
