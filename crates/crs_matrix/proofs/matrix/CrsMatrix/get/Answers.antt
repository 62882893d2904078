use Rattle.std.proofs.Common.{◌<◌, length, Some, sym, subst, ap, ◌∙◌, arith}
use Rattle.std.proofs.lemmas.Option.{slice_get-get_or}
use Rattle.crs_graph.specs.Graphs.{graph_has, IsAt, IsGraph}
use Rattle.crs_graph.specs.Packed.{joined}
use Rattle.crs_matrix.specs.Matrices.{crs_table}
use Rattle.crs_matrix.proofs.CrsTables.{table-at, table-none}
use Rattle.crs_matrix.proofs.matrix.CrsMatrix.get.Goals as goal

pub returns-in_default-clause-number : goal.returns-in_default-clause-number
returns-in_default-clause-number g c =
    let h = c.self.inside.graph.value in
    let lacks = ap (λ h. graph_has h c.args.row c.args.col) (sym c.deref.ensures) ∙ sym c.in_default.ensures.there in
    sym (table-none h c.self.inside.values.items c.args.row c.args.col lacks) ∙ ap (λ m. crs_table m c.args.row c.args.col) c.self.view_is

pub returns-clause-number : goal.returns-clause-number
returns-clause-number g c =
    let h = c.self.inside.graph.value in
    let values = c.self.inside.values.items in
    let at = subst (λ h. IsAt h c.args.row c.args.col c.in-Some.at) c.deref.ensures c.in-Some.ensures.found in
    let low = subst (λ h. c.in-Some.at < length (joined h.columns)) c.deref.ensures c.in-Some.ensures.within in
    let all = c.self.invariant in
    let within : c.in-Some.at < length values = omega arith in
    ap Some c.index.ensures
    ∙ sym (slice_get-get_or values c.in-Some.at c.index.result.now within)
    ∙ sym (table-at h values c.args.row c.args.col c.in-Some.at (subst IsGraph c.deref.ensures c.in-Some.ensures.is_graph) at)
    ∙ ap (λ m. crs_table m c.args.row c.args.col) c.self.view_is
