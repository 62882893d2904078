use Rattle.std.proofs.Common.{◌<◌, length, Some, sym, subst, ap, ◌∙◌, arith}
use Rattle.std.proofs.lemmas.Option.{slice_get-get_or}
use Rattle.tables.specs.Sums.{both_or_one}
use Rattle.tables.specs.Tables.{with_place}
use Rattle.crs_graph.specs.Graphs.{IsAt, IsGraph}
use Rattle.crs_graph.specs.Packed.{joined}
use Rattle.crs_matrix.specs.Matrices.{crs_table}
use Rattle.crs_matrix.proofs.CrsTables.{crs_of, table-at, table-set}
use Rattle.crs_matrix.proofs.matrix.CrsMatrix.sum_into.Goals as goal

pub returns-in-Some-clause-number : goal.returns-in-Some-clause-number
returns-in-Some-clause-number g c =
    let h = c.self.inside.graph.value in
    let values = c.self.inside.values.items in
    let row = c.args.row in
    let col = c.args.col in
    let at = subst (λ h. IsAt h row col c.in-Some.at) c.deref.ensures c.in-Some.ensures.found in
    let kept = subst IsGraph c.deref.ensures c.in-Some.ensures.is_graph in
    let low = subst (λ h. c.in-Some.at < length (joined h.columns)) c.deref.ensures c.in-Some.ensures.within in
    let all = c.self.invariant in
    let within : c.in-Some.at < length values = omega arith in
    let old = ap Some c.index.ensures ∙ sym (slice_get-get_or values c.in-Some.at c.index.result.now within) ∙ sym (table-at h values row col c.in-Some.at kept at) in
    table-set h values row col c.in-Some.at kept at c.add.result c.self.invariant
    ∙ ap (λ v. with_place (crs_table (crs_of h values)) row col v) (ap Some c.add.ensures ∙ ap (λ o. both_or_one g.S.Scalar.semiring.plus o (Some c.args.value)) old)
    ∙ ap (λ m. with_place (crs_table m) row col (both_or_one g.S.Scalar.semiring.plus (crs_table m row col) (Some c.args.value))) c.self.view_is
