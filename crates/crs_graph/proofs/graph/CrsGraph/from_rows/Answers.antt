use Rattle.std.proofs.Common.{◌≡◌, ℕ, sym, subst, ap, ◌∙◌}
use Rattle.std.specs.List.{concat}
use Rattle.map_core.specs.Layouts.{stands}
use Rattle.crs_graph.specs.Ascending.{ascending, IsAscending}
use Rattle.crs_graph.proofs.AllColumns.{ascending-ascends, stands-ascending}
use Rattle.crs_graph.specs.ColumnMaps.{IsColumnList}
use Rattle.crs_graph.proofs.Compressed.{AreRows}
use Rattle.crs_graph.proofs.GraphPlaces.{completed}
use Rattle.crs_graph.proofs.graph.CrsGraph.from_rows.Goals as goal

pub column_map-requires-clause-ascend : goal.column_map-requires-clause-ascend
column_map-requires-clause-ascend c = subst IsAscending (sym (c.deref.ensures.value ∙ c.in_ok-distinct.ensures.columns)) (ascending-ascends c.all.result.now)

pub on_columns-requires-clause-known : goal.on_columns-requires-clause-known
on_columns-requires-clause-known c =
    let distinct = c.deref.ensures.value ∙ c.in_ok-distinct.ensures.columns ∙ ap ascending c.all.ensures.all in
    λ g on. c.in_ok-cols.ensures.same g ∙ ap (stands g) distinct ∙ stands-ascending (concat c.args.columns) g ∙ on

pub returns : goal.returns
returns c =
    let rows = c.args.rows.value in
    let columns = c.args.columns in
    let cols = c.in_ok-cols.cols.value in
    let distinct = c.deref.ensures.value ∙ c.in_ok-distinct.ensures.columns ∙ ap ascending c.all.ensures.all in
    let same : (k : ℕ) → stands k cols ≡ stands k (concat columns) = λ k. c.in_ok-cols.ensures.same k ∙ ap (stands k) distinct ∙ stands-ascending (concat columns) k in
    let list = subst (λ xs. IsColumnList c.args.domain.now xs c.args.owners.now cols) distinct c.in_ok-cols.ensures.list in
    let kept : AreRows cols columns = record { distinct = c.in_ok-cols.ensures.once; ascend = c.requires.ascend; known = λ k on. same k ∙ on } in
    record { graph = completed rows columns c.args.domain.now c.args.owners.now cols c.in_ok-graph.graph.value kept list same c.in_ok-graph.ensures.graph }
