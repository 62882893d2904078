use Rattle.std.proofs.Common.{◌<◌, ◌+◌, length, get_or, slice_range, subst, ap, ◌∙◌, arith}
use Rattle.crs_graph.specs.Graphs.{graph_row, IsGraph}
use Rattle.crs_graph.specs.Packed.{offsets_of}
use Rattle.crs_matrix.specs.Matrices.{numbers}
use Rattle.crs_matrix.proofs.NumberRows.{number_rows-part}
use Rattle.crs_matrix.proofs.matrix.CrsMatrix.row.Goals as goal

pub returns-clause-numbers : goal.returns-clause-numbers
returns-clause-numbers g c =
    let h = c.self.inside.graph.value in
    let lid = c.args.lid in
    let start = c.offset-start.result in
    let count = length c.row-count.result.now in
    let kept = (subst IsGraph c.deref-2.ensures c.row-count.ensures.is_graph).rows in
    let known = c.requires.known in
    let same = ap (λ m. length m.graph.rows) c.self.view_is in
    let low : lid < length h.columns = omega arith in
    c.part.ensures.part
    ∙ ap (λ xs. slice_range xs start (start + count)) c.deref-3.ensures.value
    ∙ number_rows-part h.columns c.self.inside.values.items lid start count low
    (c.offset-start.ensures.offset ∙ ap (λ h. get_or (offsets_of h.columns) lid 0) c.deref.ensures)
    (ap length (c.row-count.ensures.columns ∙ ap (λ h. graph_row h lid) c.deref-2.ensures))
    ∙ ap (λ m. numbers m lid) c.self.view_is
