use Rattle.std.proofs.Common.{◌≡◌, ◌++◌, take}
use Rattle.crs_matrix.specs.Stored.{columns_at}
use Rattle.crs_matrix.proofs.places.push_columns.Given as goal

abbrev pub invariant-loop-p : goal.invariant-loop-p
invariant-loop-p l = l.list.items ≡ l.fn.list.items ++ columns_at (take l.p-index l.places)
