use Rattle.std.proofs.Common.{◌≡◌, ◌*◌, true, length, replicate, subst, ◌∙◌, rules}
use Rattle.tables.specs.Indices.{AreDistinct}
use Rattle.crs_matrix.specs.Matrices.{crs_local, crs_table}
use Rattle.multivector.specs.Vectors.{vector_table}
use Rattle.model_defs.specs.Operations.{product, turned}
use Rattle.spmv.specs.Applied.{turned as local_turned}
use Rattle.rank_values.specs.Vectors.{global_table}
use Rattle.rank_matrices.proofs.SumsOn.{sums-on}
use Rattle.rank_matrices.proofs.Products.{column-product}
use Rattle.rank_matrices.proofs.applies.sums_of_columns.Goals as goal

pub returns-clause-sums : goal.returns-clause-sums
returns-clause-sums g c =
    let R = g.S.Scalar.semiring in
    let a = c.args.a.now in
    let x = c.args.x.now in
    let made : c.in_ok-clone.field-0.value ≡ a.graph.cols = search rules in
    let distinct : AreDistinct a.graph.rows = subst AreDistinct (c.deref.ensures ∙ c.row_map.ensures.rows) c.len.ensures.distinct in
    λ n below. sums-on g.met.S.Scalar.laws a.graph.cols x.columns c.zero.result c.in_ok-sums.sums c.local_apply_transposed.new.y
    (product R (length a.graph.rows) (local_turned (crs_local a)) (vector_table x)) (product R n (turned true (crs_table a)) (global_table x))
    (c.in_ok-sums.ensures.vector ∙ (λ t. record { map = made t; columns = c.columns.ensures.columns t; values = replicate (length (made t) * c.columns.ensures.columns t) c.zero.result }))
    c.zero.ensures c.local_apply_transposed.ensures.same_map c.local_apply_transposed.ensures.same_columns c.local_apply_transposed.ensures.sum
    (λ i l k here. column-product g.met.S.Scalar.laws a x n i l k distinct c.requires.range below here)
