use Rattle.std.proofs.Common.{◌≡◌, [], length, map, sym, ap, subst, ◌∙◌, arith, rules}
use Rattle.tables.specs.Indices.{AreDistinct}
use Rattle.map_core.specs.Layouts.{global_index, local_index}
use Rattle.crs_graph.specs.Graphs.{graph_row}
use Rattle.crs_matrix.specs.Matrices.{number_at_place}
use Rattle.transpose.proofs.Transposed.{turned-all, turned-more, turned-none, IsTurned}
use Rattle.transpose.proofs.turned.local_transpose.Goals as goal

pub loop-lid-init : goal.loop-lid-init
loop-lid-init g c =
    let made : c.in_ok-clone.field-0.value ≡ c.args.a.now.graph.cols = search rules in
    turned-none c.args.a.now c.in_ok-turned.turned (c.in_ok-turned.ensures.empty ∙ (λ t. record { rows = made t; cells = map (λ _. []) (made t) }))

pub loop-lid-preserved : goal.loop-lid-preserved
loop-lid-preserved g c =
    let a = c.args.a.now in
    let lid = c.loop-lid.lid in
    let list = c.row_map-rows.ensures.rows ∙ ap (λ h. h.rows) (c.deref.ensures ∙ c.graph.ensures.graph) in
    let columns = c.row.ensures.columns ∙ ap (λ h. graph_row h lid) (c.deref-in-loop-lid-2.ensures ∙ c.graph-in-loop-lid.ensures.graph) in
    turned-more g.S.Scalar.semiring lid c.index_of-gid.result a c.loop-lid.turned c.turn_row.new.target (λ i. number_at_place c.row-in-loop-lid.result.now (local_index c.row.result.now i))
    c.loop-lid.invariant
    c.in_ok-turn_row.ensures.rows
    (subst AreDistinct (c.deref-3.ensures ∙ list) c.len-lid-end.ensures.distinct)
    (ap (λ xs. global_index xs lid) (sym (c.deref-in-loop-lid.ensures ∙ list)) ∙ c.index_of-gid.ensures.index)
    c.in_ok-turn_row.ensures.column
    (λ i t. number_at_place (c.row-in-loop-lid.ensures.numbers t) (local_index (columns t) i))

pub returns-clause-transpose : goal.returns-clause-transpose
returns-clause-transpose g c =
    let rows = ap length (c.deref-3.ensures ∙ c.row_map-rows.ensures.rows ∙ ap (λ h. h.rows) (c.deref.ensures ∙ c.graph.ensures.graph)) in
    let past = c.loop-lid-test.false in
    let low = c.loop-lid.auto.lid-end in
    let end = c.len-lid-end.ensures.len in
    let done : c.loop-lid.lid ≡ length c.args.a.now.graph.rows = omega arith in
    turned-all c.args.a.now c.loop-lid.turned (subst (λ n. IsTurned n c.args.a.now c.loop-lid.turned) done c.loop-lid.invariant)
