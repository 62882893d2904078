use Rattle.std.proofs.Common.{[], length, ap, ◌∙◌, arith}
use Rattle.std.proofs.lemmas.List.{get_or_past}
use Rattle.crs_matrix.specs.Matrices.{crs_local, numbers}
use Rattle.model_defs.specs.Operations.{product}
use Rattle.multivector.specs.Vectors.{vector_table}
use Rattle.spmv.specs.Applied.{row_product}
use Rattle.spmv.proofs.Rows.{row-empty, rows-done}
use Rattle.spmv.proofs.apply.local_apply.Goals as goal

pub returns-clause-sum : goal.returns-clause-sum
returns-clause-sum g c =
    let R = g.S.Scalar.semiring in
    let a = c.args.a.now in
    let x = vector_table c.args.x.now in
    let n = length a.graph.cols in
    let past = c.loop-lid-test.false in
    let rows = ap length (c.deref-2.ensures ∙ c.row_map.ensures.rows ∙ ap (λ h. h.rows) (c.deref.ensures ∙ c.graph.ensures.graph)) in
    let many = c.graph.ensures.is_crs.graph.rows in
    let all = c.len-lid-end.ensures.len in
    let done = rows-done g.met.S.Scalar.laws (vector_table c.loop-lid.y) (vector_table c.args.y.now) (product R n (crs_local a) x) (length a.graph.columns) c.loop-lid.lid (omega arith) c.loop-lid.invariant.done
    (λ i k high. ap (λ row. row_product R n row (numbers a i) x k) (get_or_past a.graph.columns i [] high) ∙ row-empty g.met.S.Scalar.laws (numbers a i) x k n) in
    λ t i k. done i k t
