use Rattle.std.proofs.Common.{◌++◌, ◌∷◌, [], length, get_or, map, sym, ap, subst, ◌∙◌, arith}
use Rattle.std.specs.Prelude.{slice_get}
use Rattle.std.specs.List.{concat}
use Rattle.std.proofs.lemmas.List.{map-append, take_all}
use Rattle.crs_graph.specs.Ascending.{IsAscending}
use Rattle.crs_graph.proofs.AllColumns.{ascending-ascends}
use Rattle.tables.specs.Indices.{stands}
use Rattle.crs_matrix.specs.Rows.{columns_in}
use Rattle.sparse_product.specs.Rows.{linked_cells, AreLinks}
use Rattle.sparse_product.proofs.Links.{column-there, entries-known, row-entry, take_push, AreLinks-push}
use Rattle.sparse_product.proofs.linked_rows.link_row.Goals as goal

pub count-at-end-requires : goal.count-at-end-requires
count-at-end-requires g c = record { known = entries-known c.args.b.now c.args.k c.requires.is_matrix c.requires.known }

pub place_of-requires-clause-ascend : goal.place_of-requires-clause-ascend
place_of-requires-clause-ascend g c = subst IsAscending (sym c.requires.columns) (ascending-ascends (concat (map columns_in c.args.b.now.cells)))

pub place_of-requires-clause-there : goal.place_of-requires-clause-there
place_of-requires-clause-there g c =
    let at = ap (λ cs. slice_get cs c.loop-at.at) (sym (row-entry c.args.b.now c.args.k c.requires.is_matrix c.requires.known)) ∙ c.cell-col.ensures.cell in
    ap (stands c.cell-col.result.0) c.requires.columns ∙ column-there c.args.b.now c.args.k c.loop-at.at c.cell-col.result at

pub loop-at-preserved : goal.loop-at-preserved
loop-at-preserved g c =
    let columns = c.args.columns.now in
    let cells = get_or c.args.b.now.cells c.args.k [] in
    let at = ap (λ cs. slice_get cs c.loop-at.at) (sym (row-entry c.args.b.now c.args.k c.requires.is_matrix c.requires.known)) ∙ c.cell-col.ensures.cell in
    record {
      cells = ap (linked_cells columns) c.in_ok-push.ensures.items
          ∙ map-append (λ l. (get_or columns l.0 0, l.1)) c.loop-at.row.items ((c.place_of.result, c.cell-col.result.1) ∷ [])
          ∙ (λ t. c.loop-at.invariant.cells t ++ (c.place_of.ensures.column t, c.cell-col.result.1) ∷ [])
          ∙ sym (take_push c.loop-at.at cells c.cell-col.result at);
      within = subst (AreLinks (length columns)) (sym c.in_ok-push.ensures.items) (AreLinks-push (length columns) c.loop-at.row.items (c.place_of.result, c.cell-col.result.1) c.loop-at.invariant.within c.place_of.ensures.within);
    }

pub returns-clause-cells : goal.returns-clause-cells
returns-clause-cells g c =
    let past = c.loop-at-test.false in
    let count = c.count-at-end.ensures.count in
    let row = ap length (row-entry c.args.b.now c.args.k c.requires.is_matrix c.requires.known) in
    c.loop-at.invariant.cells ∙ take_all c.loop-at.at (get_or c.args.b.now.cells c.args.k []) (omega arith)
