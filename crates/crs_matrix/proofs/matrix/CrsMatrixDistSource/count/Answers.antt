use Rattle.std.proofs.Common.{length, sym, ap, ◌∙◌, arith}
use Rattle.crs_graph.specs.Graphs.{graph_row}
use Rattle.crs_matrix.specs.ByRow.{by_row}
use Rattle.crs_matrix.proofs.Clauses.{known-row}
use Rattle.crs_matrix.proofs.CrsCells.{crs-ascending, crs-count}
use Rattle.crs_matrix.proofs.matrix.CrsMatrixDistSource.count.Goals as goal

pub row-requires : goal.row-requires
row-requires g c =
    let row = known-row (by_row c.args.self.now) c.args.lid c.requires.known in
    let same = ap (λ h. length h.rows) (c.deref.ensures ∙ c.graph.ensures.graph) in
    record { known = omega arith }

pub returns-clause-count : goal.returns-clause-count
returns-clause-count g c =
    ap length (c.row.ensures.columns ∙ ap (λ h. graph_row h c.args.lid) (c.deref.ensures ∙ c.graph.ensures.graph))
    ∙ sym (crs-count c.args.self.now c.graph.ensures.is_crs c.args.lid c.requires.known)

pub returns-clause-ascending : goal.returns-clause-ascending
returns-clause-ascending g c = crs-ascending c.args.self.now c.graph.ensures.is_crs c.args.lid c.requires.known
