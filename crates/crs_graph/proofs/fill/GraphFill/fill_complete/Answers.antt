use Rattle.std.proofs.Common.{◌≡◌, ℕ, subst, ap, ◌∙◌}
use Rattle.crs_graph.specs.Fills.{columns_of, has_place, Fill}
use Rattle.crs_graph.specs.Graphs.{graph_has, IsCompleted}
use Rattle.crs_graph.proofs.GraphPlaces.{graph_has-places}
use Rattle.crs_graph.proofs.fill.GraphFill.fill_complete.Goals as goal

pub returns-clause-places : goal.returns-clause-places
returns-clause-places c =
    let rows = c.self.inside.rows.value in
    let columns = columns_of c.self.inside.columns.items in
    let packed = c.in_ok-packed.ensures.rows ∙ ap columns_of c.deref-2.ensures.value in
    let made = subst (λ rs. IsCompleted rows rs c.args.domain.now c.args.owners.now c.in_ok-graph.graph.value) packed c.in_ok-graph.ensures.graph in
    let same = graph_has-places (record { rows = rows; columns = columns }) c.in_ok-graph.graph.value c.args.domain.now c.args.owners.now c.self.invariant.rows made in
    subst (λ (f : Fill). (row col : ℕ) → graph_has c.in_ok-graph.graph.value row col ≡ has_place f row col) c.self.view_is same
