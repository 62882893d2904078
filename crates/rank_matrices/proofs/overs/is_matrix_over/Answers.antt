use Rattle.std.proofs.Common.{◌≡◌, ◌<◌, length, subst, sym, ap, ◌∙◌, arith}
use Rattle.tables.specs.Indices.{AreDistinct}
use Rattle.rank_matrices.specs.Rows.{has_over}
use Rattle.rank_matrices.proofs.OverNumbers.{matrix-none, matrix-some}
use Rattle.rank_matrices.proofs.overs.is_matrix_over.Goals as goal

pub returns-then-has_over-clause-some : goal.returns-then-has_over-clause-some
returns-then-has_over-clause-some g c =
    let F = g.S.Scalar.conversions in
    let m = c.args.matrix.now in
    let same : c.deref-2.result.now ≡ m.graph.rows = c.deref-2.ensures ∙ c.row_map.ensures.rows ∙ ap (λ h. h.rows) (c.deref.ensures ∙ c.graph.ensures.graph) in
    let distinct : AreDistinct m.graph.rows = subst AreDistinct same c.len-lid-end.ensures.distinct in
    let many = ap length same in
    let low : c.loop-lid.lid < length m.graph.rows = (let test = c.loop-lid-test.true in let len = c.len-lid-end.ensures.len in omega arith) in
    λ yes. matrix-some F m c.loop-lid.lid c.graph.ensures.is_crs distinct low
    (sym (ap (has_over F) c.row.ensures.numbers) ∙ sym c.has_over.ensures.over ∙ c.if-has_over.true)

pub returns-clause-none : goal.returns-clause-none
returns-clause-none g c =
    let m = c.args.matrix.now in
    let same : c.deref-2.result.now ≡ m.graph.rows = c.deref-2.ensures ∙ c.row_map.ensures.rows ∙ ap (λ h. h.rows) (c.deref.ensures ∙ c.graph.ensures.graph) in
    let many = ap length same in
    λ no_one. matrix-none g.S.Scalar.conversions m c.loop-lid.lid (let past = c.loop-lid-test.false in let len = c.len-lid-end.ensures.len in omega arith) c.loop-lid.invariant
