use Rattle.std.proofs.Common.{subst}
use Rattle.crs_matrix.specs.Rows.{IsRowCells}
use Rattle.crs_matrix.specs.Stored.{places_of}
use Rattle.crs_matrix.proofs.Kept.{rows-are}
use Rattle.crs_matrix.proofs.fill.MatrixFill.row_map.Goals as goal

pub returns-clause-is_matrix : goal.returns-clause-is_matrix
returns-clause-is_matrix g c = subst IsRowCells c.self.view_is (rows-are c.self.inside.rows.value (places_of c.self.inside.places.items) c.self.inside.values.items c.self.invariant)
