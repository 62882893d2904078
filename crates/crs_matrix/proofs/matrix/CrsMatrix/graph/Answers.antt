use Rattle.std.proofs.Common.{subst}
use Rattle.crs_graph.specs.Graphs.{IsGraph}
use Rattle.crs_matrix.specs.Matrices.{IsCrs}
use Rattle.crs_matrix.proofs.CrsTables.{crs_of-kept}
use Rattle.crs_matrix.proofs.matrix.CrsMatrix.graph.Goals as goal

pub returns-clause-is_crs : goal.returns-clause-is_crs
returns-clause-is_crs g c =
    subst IsCrs c.self.view_is (crs_of-kept c.self.inside.graph.value c.self.inside.values.items (subst IsGraph c.deref.ensures c.row_map.ensures.is_graph) c.self.invariant)
