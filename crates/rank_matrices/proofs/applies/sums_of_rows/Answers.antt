use Rattle.std.proofs.Common.{◌≡◌, ◌*◌, length, replicate, ◌∙◌, rules}
use Rattle.crs_matrix.specs.Matrices.{crs_local, crs_table}
use Rattle.multivector.specs.Vectors.{vector_table}
use Rattle.model_defs.specs.Operations.{product}
use Rattle.rank_values.specs.Vectors.{global_table}
use Rattle.rank_matrices.proofs.SumsOn.{sums-on}
use Rattle.rank_matrices.proofs.Products.{row-product}
use Rattle.rank_matrices.proofs.applies.sums_of_rows.Goals as goal

pub returns-clause-sums : goal.returns-clause-sums
returns-clause-sums g c =
    let R = g.S.Scalar.semiring in
    let a = c.args.a.now in
    let x = c.args.x.now in
    let made : c.in_ok-clone.field-0.value ≡ a.graph.rows = search rules in
    λ n below. sums-on g.met.S.Scalar.laws a.graph.rows x.columns c.zero.result c.in_ok-sums.sums c.local_apply.new.y
    (product R (length a.graph.cols) (crs_local a) (vector_table x)) (product R n (crs_table a) (global_table x))
    (c.in_ok-sums.ensures.vector ∙ (λ t. record { map = made t; columns = c.columns.ensures.columns t; values = replicate (length (made t) * c.columns.ensures.columns t) c.zero.result }))
    c.zero.ensures c.local_apply.ensures.same_map c.local_apply.ensures.same_columns c.local_apply.ensures.sum
    (λ i l k here. row-product g.met.S.Scalar.laws a x n i l k c.graph.ensures.is_crs c.requires.domain below here)
