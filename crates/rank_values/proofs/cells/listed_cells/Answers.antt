use Rattle.std.proofs.Common.{◌≡◌, ◌≤◌, ◌++◌, length, get_or, subst, sym, ap, ◌∙◌, arith}
use Rattle.std.proofs.lemmas.Option.{get_or_from_slice_get}
use Rattle.tables.specs.Indices.{AreDistinct}
use Rattle.tables.specs.Tables.{table_of}
use Rattle.rank_values.specs.Rows.{row_of, rows_of}
use Rattle.rank_values.proofs.CellLists.{all-rows, count-push}
use Rattle.rank_values.proofs.cells.listed_cells.Goals as goal

pub loop-lid-preserved : goal.loop-lid-preserved
loop-lid-preserved g c =
    let v = c.args.vector.now in
    let same : c.deref-in-loop-lid.result.now ≡ v.map = c.deref-in-loop-lid.ensures ∙ c.map-map.ensures.map in
    let row : c.in-Some.row ≡ get_or v.map c.loop-lid.lid 0 =
    sym (get_or_from_slice_get c.deref-in-loop-lid.result.now c.loop-lid.lid c.in-Some.row 0 (sym c.in-Some.ensures.index)) ∙ ap (λ m. get_or m c.loop-lid.lid 0) same in
    c.in_ok-add_row.ensures.cells
    ∙ (λ t. c.loop-lid.invariant t ++ row_of v c.loop-lid.lid (row t) v.columns)
    ∙ sym (count-push (λ l. row_of v l (get_or v.map l 0) v.columns) c.loop-lid.lid)

pub returns : goal.returns
returns g c =
    let v = c.args.vector.now in
    let same : c.deref.result.now ≡ v.map = c.deref.ensures ∙ c.map-map.ensures.map in
    let distinct : AreDistinct v.map = subst AreDistinct same c.len-lid-end.ensures.distinct in
    let many : length c.deref.result.now ≡ length v.map = ap length same in
    let end : c.loop-lid.lid ≡ length v.map = (let past = c.loop-lid-test.false in let low = c.loop-lid.auto.lid-end in let len = c.len-lid-end.ensures.len in omega arith) in
    record { cells = ap (table_of g.S.Scalar.semiring) (c.loop-lid.invariant ∙ ap (rows_of v) end) ∙ all-rows g.met.S.Scalar.laws v distinct }
