use Rattle.std.proofs.Common.{◌≡◌, take, map}
use Rattle.std.specs.List.{concat}
use Rattle.crs_matrix.specs.Stored.{columns_at, places_of}
use Rattle.crs_matrix.proofs.fill.joined_columns.Given as goal

abbrev pub invariant-loop-row : goal.invariant-loop-row
invariant-loop-row l = l.all.items ≡ concat (map columns_at (places_of (take l.row-index l.rows)))
