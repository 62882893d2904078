use Rattle.std.proofs.Common.{◌≡◌, ◌<◌, ◌++◌, [], take, length, get_or, map, subst, refl, sym, ap, ◌∙◌, arith}
use Rattle.std.proofs.lemmas.List.{length-map, take_all, take_more}
use Rattle.map_core.specs.Classes.{index_at}
use Rattle.map_core.specs.Layouts.{stands}
use Rattle.tables.specs.Indices.{AreBelow}
use Rattle.crs_graph.specs.Ascending.{IsAscending}
use Rattle.crs_graph.specs.Graphs.{graph_row}
use Rattle.crs_graph.specs.Packed.{joined}
use Rattle.crs_graph.proofs.Ascending.{stands-at}
use Rattle.crs_graph.proofs.LocalColumns.{below-stands}
use Rattle.crs_graph.proofs.Packed.{joined-push}
use Rattle.crs_matrix.specs.Completed.{row_numbers, stored_rows}
use Rattle.crs_matrix.specs.Stored.{cells_at, columns_at, AreWithin}
use Rattle.crs_matrix.proofs.CompletedRows.{length-stored, stored-at}
use Rattle.crs_matrix.proofs.Numbers.{kept-row}
use Rattle.crs_matrix.proofs.complete.stored_numbers.Goals as goal

pub push_numbers-requires-clause-ascend : goal.push_numbers-requires-clause-ascend
push_numbers-requires-clause-ascend g c =
    let row_is = sym c.row_at.ensures.row in
    subst (λ ps. IsAscending (columns_at ps)) row_is (c.requires.ascend c.loop-lid.lid)

pub push_numbers-requires-clause-within : goal.push_numbers-requires-clause-within
push_numbers-requires-clause-within g c =
    let row_is = sym c.row_at.ensures.row in
    subst (λ ps. AreWithin (length c.args.values.now) ps) row_is (c.requires.within c.loop-lid.lid)

pub push_numbers-requires-clause-known : goal.push_numbers-requires-clause-known
push_numbers-requires-clause-known g c =
    let row_is = sym c.row_at.ensures.row in
    let row = c.row.result.now in
    let cols_are = c.deref-in-loop-lid.ensures ∙ c.col_map.ensures.cols in
    let below = subst (AreBelow (length c.args.graph.now.cols)) (sym c.row.ensures.columns) (c.row.ensures.is_graph.within c.loop-lid.lid) in
    λ k low_k.
    let col = index_at row k in
    let on = stands-at row col k low_k refl in
    let within = below-stands (length c.args.graph.now.cols) row col below on in (
      subst (λ xs. col < length xs) (sym cols_are) within,
      (λ t. stands (index_at (cols_are t) col) (columns_at (sym row_is t))) ∙ sym (c.requires.known c.loop-lid.lid col within) ∙ ap (stands col) (sym c.row.ensures.columns) ∙ on,
    )

pub loop-lid-preserved : goal.loop-lid-preserved
loop-lid-preserved g c =
    let low : c.loop-lid.lid < length c.args.places.now = let a = c.loop-lid-test.true in let b = c.len-rows.ensures.len in let d = ap length (c.deref.ensures ∙ c.row_map.ensures.rows) in let e = c.requires.each in omega arith in
    let row_is = sym c.row_at.ensures.row in
    let cols_are = c.deref-in-loop-lid.ensures ∙ c.col_map.ensures.cols in
    let h = c.args.graph.now in
    let lid = c.loop-lid.lid in
    let values = c.args.values.now in
    let ps = c.args.places.now in
    let cells = map (cells_at values) ps in
    let rows = stored_rows h.cols h.columns cells in
    let one = length-map ps (cells_at values) in
    let each = c.requires.each in
    let many = c.row_map.ensures.is_graph.rows in
    let same : length cells ≡ length h.columns = omega arith in
    let count = length-stored h.cols h.columns cells same in
    c.in_ok-push_numbers.ensures.pushed
    ∙ (λ t. c.loop-lid.invariant t ++ row_numbers (cols_are t) (c.row.ensures.columns t) (cells_at values (sym row_is t)))
    ∙ ap (λ xs. joined (take lid rows) ++ xs) (ap (row_numbers h.cols (graph_row h lid)) (sym (kept-row ps values lid)) ∙ sym (stored-at h.cols h.columns cells lid (omega arith) same))
    ∙ sym (ap joined (take_more rows lid [] (omega arith)) ∙ joined-push (take lid rows) (get_or rows lid []))

pub returns-clause-numbers : goal.returns-clause-numbers
returns-clause-numbers g c =
    let h = c.args.graph.now in
    let values = c.args.values.now in
    let ps = c.args.places.now in
    let cells = map (cells_at values) ps in
    let rows = stored_rows h.cols h.columns cells in
    let one = length-map ps (cells_at values) in
    let each = c.requires.each in
    let many = c.row_map.ensures.is_graph.rows in
    let same : length cells ≡ length h.columns = omega arith in
    let count = length-stored h.cols h.columns cells same in
    let past = c.loop-lid-test.false in
    let b = c.len-rows.ensures.len in
    let d = ap length (c.deref.ensures ∙ c.row_map.ensures.rows) in
    c.loop-lid.invariant ∙ ap joined (take_all c.loop-lid.lid rows (omega arith))
