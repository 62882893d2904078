use Rattle.std.proofs.Common.{subst}
use Rattle.crs_graph.specs.Graphs.{IsGraph}
use Rattle.crs_matrix.specs.Matrices.{IsCrs}
use Rattle.crs_matrix.proofs.CrsCells.{by_row-kept, by_row-table}
use Rattle.crs_matrix.proofs.CrsTables.{crs_of-kept}
use Rattle.crs_matrix.proofs.matrix.CrsMatrix.row_map.Goals as goal

pub returns-clause-is_matrix : goal.returns-clause-is_matrix
returns-clause-is_matrix g c = by_row-kept c.args.self.now (subst IsCrs c.self.view_is (crs_of-kept c.self.inside.graph.value c.self.inside.values.items (subst IsGraph c.deref.ensures c.row_map.ensures.is_graph) c.self.invariant))

pub returns-clause-table : goal.returns-clause-table
returns-clause-table g c = by_row-table c.args.self.now (subst IsCrs c.self.view_is (crs_of-kept c.self.inside.graph.value c.self.inside.values.items (subst IsGraph c.deref.ensures c.row_map.ensures.is_graph) c.self.invariant))
