use Rattle.std.proofs.Common.{Some, subst, ap, ◌∙◌}
use Rattle.tables.specs.Tables.{with_place}
use Rattle.crs_graph.specs.Graphs.{IsAt, IsGraph}
use Rattle.crs_matrix.specs.Matrices.{crs_table}
use Rattle.crs_matrix.proofs.CrsTables.{table-set}
use Rattle.crs_matrix.proofs.matrix.CrsMatrix.replace.Goals as goal

pub returns-clause-number : goal.returns-clause-number
returns-clause-number g c =
    let at = subst (λ h. IsAt h c.args.row c.args.col c.in-Some.at) c.deref.ensures c.in-Some.ensures.found in
    table-set c.self.inside.graph.value c.self.inside.values.items c.args.row c.args.col c.in-Some.at (subst IsGraph c.deref.ensures c.in-Some.ensures.is_graph) at c.args.value c.self.invariant
    ∙ ap (λ m. with_place (crs_table m) c.args.row c.args.col (Some c.args.value)) c.self.view_is
