use Rattle.std.proofs.Common.{◌≡◌, ◌++◌, ◌∷◌, [], Some, get_or, length, take, sym, ap, ◌∙◌, append_assoc, arith}
use Rattle.std.specs.Prelude.{slice_get}
use Rattle.std.proofs.lemmas.List.{take_all}
use Rattle.crs_matrix.specs.ByRow.{by_row}
use Rattle.rank_matrices.specs.Rows.{row_cells}
use Rattle.rank_matrices.proofs.Listed.{entry-is, entry-known, row-more}
use Rattle.rank_matrices.proofs.cells.add_row.Goals as goal

pub gid-row-requires : goal.gid-row-requires
gid-row-requires g c = record { known = entry-known c.args.matrix.now c.args.lid c.requires.known }

pub count-at-end-requires : goal.count-at-end-requires
count-at-end-requires g c = record { known = entry-known c.args.matrix.now c.args.lid c.requires.known }

pub cell-col-requires-clause-known : goal.cell-col-requires-clause-known
cell-col-requires-clause-known g c = entry-known c.args.matrix.now c.args.lid c.requires.known

pub loop-at-preserved : goal.loop-at-preserved
loop-at-preserved g c =
    let cells = get_or (by_row c.args.matrix.now).cells c.args.lid [] in
    let before = c.args.cells.now.items in
    let at = c.loop-at.at in
    let is : slice_get cells at ≡ Some c.cell-col.result =
    sym (ap (λ e. slice_get e.cells at) (entry-is c.args.matrix.now c.args.lid c.requires.known)) ∙ c.cell-col.ensures.cell in
    c.in_ok-push.ensures.items
    ∙ (λ t. c.loop-at.invariant t ++ record { row = c.gid-row.result; col = c.cell-col.result.0; value = c.cell-col.result.1 } ∷ [])
    ∙ append_assoc before (row_cells c.gid-row.result (take at cells)) (record { row = c.gid-row.result; col = c.cell-col.result.0; value = c.cell-col.result.1 } ∷ [])
    ∙ ap (λ xs. before ++ xs) (row-more c.gid-row.result cells at c.cell-col.result is)

pub returns : goal.returns
returns g c =
    let m = c.args.matrix.now in
    let cells = get_or (by_row m).cells c.args.lid [] in
    let entry = entry-is m c.args.lid c.requires.known in
    let gid : c.gid-row.result ≡ get_or m.graph.rows c.args.lid 0 = c.gid-row.ensures.gid ∙ ap (λ e. e.gid) entry in
    let past = c.loop-at-test.false in
    let count = c.count-at-end.ensures.count in
    let many = ap (λ e. length e.cells) entry in
    record {
      cells = c.loop-at.invariant
          ∙ (λ t. c.args.cells.now.items ++ row_cells (gid t) (take_all c.loop-at.at cells (omega arith) t));
    }
