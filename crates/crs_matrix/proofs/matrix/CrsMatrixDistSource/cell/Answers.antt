use Rattle.std.proofs.Common.{◌≡◌, ◌<◌, length, get_or, false, true, sym, ap, ◌∙◌, arith}
use Rattle.std.specs.Prelude.{slice_get}
use Rattle.crs_graph.specs.Graphs.{by_index, graph_row}
use Rattle.crs_matrix.specs.ByRow.{by_row}
use Rattle.crs_matrix.proofs.Clauses.{known-row}
use Rattle.crs_matrix.proofs.CrsCells.{cell-known, cell-within, crs-cell, crs-count, order-count}
use Rattle.crs_matrix.proofs.matrix.CrsMatrixDistSource.cell.Goals as goal

pub row_by_index-requires : goal.row_by_index-requires
row_by_index-requires g c =
    let row = known-row (by_row c.args.self.now) c.args.lid c.requires.known in
    let same = ap (λ h. length h.rows) (c.deref.ensures ∙ c.graph-graph.ensures.graph) in
    record { known = omega arith }

pub offset_bounds-row_by_index-at : goal.offset_bounds-row_by_index-at
offset_bounds-row_by_index-at g c =
    let m = c.args.self.now in
    let order = c.row_by_index.ensures.order ∙ ap (λ h. by_index h.cols (graph_row h c.args.lid)) (c.deref.ensures ∙ c.graph-graph.ensures.graph) in
    let all = ap length order ∙ order-count m c.graph-graph.ensures.is_crs c.args.lid in
    let count = crs-count m c.graph-graph.ensures.is_crs c.args.lid c.requires.known in
    let within = c.requires.within in
    omega (arith, c.row_by_index.type_inv.1)

pub bounds-row_by_index-at : goal.bounds-row_by_index-at
bounds-row_by_index-at g c =
    let m = c.args.self.now in
    let order = c.row_by_index.ensures.order ∙ ap (λ h. by_index h.cols (graph_row h c.args.lid)) (c.deref.ensures ∙ c.graph-graph.ensures.graph) in
    let all = ap length order ∙ order-count m c.graph-graph.ensures.is_crs c.args.lid in
    let count = crs-count m c.graph-graph.ensures.is_crs c.args.lid c.requires.known in
    let within = c.requires.within in
    omega arith

pub row-requires : goal.row-requires
row-requires g c =
    let row = known-row (by_row c.args.self.now) c.args.lid c.requires.known in
    let same = ap (λ h. length h.rows) (c.deref-2.ensures ∙ c.graph-graph.ensures.graph) in
    record { known = omega arith }

pub bounds-row-place : goal.bounds-row-place
bounds-row-place g c =
    let m = c.args.self.now in
    let order = c.row_by_index.ensures.order ∙ ap (λ h. by_index h.cols (graph_row h c.args.lid)) (c.deref.ensures ∙ c.graph-graph.ensures.graph) in
    let p = get_or c.row_by_index.result.now c.args.at 0 in
    let at = ap (λ xs. get_or xs c.args.at 0) order in
    let low : p < length (graph_row m.graph c.args.lid) = cell-within m c.graph-graph.ensures.is_crs c.args.lid c.args.at p c.requires.known c.requires.within at in
    let row = c.row.ensures.columns ∙ ap (λ h. graph_row h c.args.lid) (c.deref-2.ensures ∙ c.graph-graph.ensures.graph) in
    let same = ap length row in
    omega arith

pub row-requires-2 : goal.row-requires-2
row-requires-2 g c =
    let row = known-row (by_row c.args.self.now) c.args.lid c.requires.known in
    record { known = omega arith }

pub offset_bounds-row-place-2 : goal.offset_bounds-row-place-2
offset_bounds-row-place-2 g c =
    let m = c.args.self.now in
    let order = c.row_by_index.ensures.order ∙ ap (λ h. by_index h.cols (graph_row h c.args.lid)) (c.deref.ensures ∙ c.graph-graph.ensures.graph) in
    let p = get_or c.row_by_index.result.now c.args.at 0 in
    let at = ap (λ xs. get_or xs c.args.at 0) order in
    let low : p < length (graph_row m.graph c.args.lid) = cell-within m c.graph-graph.ensures.is_crs c.args.lid c.args.at p c.requires.known c.requires.within at in
    let same = c.row-2.ensures.as_many in
    omega arith

pub bounds-row-place-2 : goal.bounds-row-place-2
bounds-row-place-2 g c =
    let m = c.args.self.now in
    let order = c.row_by_index.ensures.order ∙ ap (λ h. by_index h.cols (graph_row h c.args.lid)) (c.deref.ensures ∙ c.graph-graph.ensures.graph) in
    let p = get_or c.row_by_index.result.now c.args.at 0 in
    let at = ap (λ xs. get_or xs c.args.at 0) order in
    let low : p < length (graph_row m.graph c.args.lid) = cell-within m c.graph-graph.ensures.is_crs c.args.lid c.args.at p c.requires.known c.requires.within at in
    let same = c.row-2.ensures.as_many in
    omega arith

pub unreachable-requires : goal.unreachable-requires
unreachable-requires g c =
    let m = c.args.self.now in
    let order = c.row_by_index.ensures.order ∙ ap (λ h. by_index h.cols (graph_row h c.args.lid)) (c.deref.ensures ∙ c.graph-graph.ensures.graph) in
    let p = get_or c.row_by_index.result.now c.args.at 0 in
    let at = ap (λ xs. get_or xs c.args.at 0) order in
    let low : p < length (graph_row m.graph c.args.lid) = cell-within m c.graph-graph.ensures.is_crs c.args.lid c.args.at p c.requires.known c.requires.within at in
    let row = c.row.ensures.columns ∙ ap (λ h. graph_row h c.args.lid) (c.deref-2.ensures ∙ c.graph-graph.ensures.graph) in
    let cols = c.deref-4.ensures ∙ c.col_map.ensures.cols ∙ ap (λ h. h.cols) (c.deref-3.ensures ∙ c.graph-graph.ensures.graph) in
    let known : get_or (graph_row m.graph c.args.lid) p 0 < length m.graph.cols = cell-known m c.graph-graph.ensures.is_crs c.args.lid c.args.at p c.requires.known c.requires.within at in
    let same = ap (λ xs. get_or xs p 0) row in
    let many = ap length cols in
    let bad : false ≡ true = c.in-None.ensures.found.1 (omega arith) in
    cc

pub returns : goal.returns
returns g c =
    let m = c.args.self.now in
    let order = c.row_by_index.ensures.order ∙ ap (λ h. by_index h.cols (graph_row h c.args.lid)) (c.deref.ensures ∙ c.graph-graph.ensures.graph) in
    let p = get_or c.row_by_index.result.now c.args.at 0 in
    let at = ap (λ xs. get_or xs c.args.at 0) order in
    let low : p < length (graph_row m.graph c.args.lid) = cell-within m c.graph-graph.ensures.is_crs c.args.lid c.args.at p c.requires.known c.requires.within at in
    let row = c.row.ensures.columns ∙ ap (λ h. graph_row h c.args.lid) (c.deref-2.ensures ∙ c.graph-graph.ensures.graph) in
    let cols = c.deref-4.ensures ∙ c.col_map.ensures.cols ∙ ap (λ h. h.cols) (c.deref-3.ensures ∙ c.graph-graph.ensures.graph) in
    let col = get_or c.row.result.now p 0 in
    let value = c.index-row-place.result in
    record {
      cell = crs-cell m c.graph-graph.ensures.is_crs c.args.lid c.args.at p c.requires.known c.requires.within at col c.in-Some.gid value
          (ap (λ xs. get_or xs p 0) row)
          (ap (λ xs. slice_get xs col) (sym cols) ∙ sym c.in-Some.ensures.index)
          (c.index-row-place.is ∙ ap (λ xs. get_or xs p value) c.row-2.ensures.numbers);
    }
