use Rattle.std.proofs.Common.{sym, ap, ◌∙◌}
use Rattle.map_core.specs.Layouts.{local_index}
use Rattle.crs_graph.specs.Graphs.{graph_row, has_local_place}
use Rattle.crs_graph.proofs.GraphPlaces.{none_stands, some_stands}
use Rattle.crs_graph.proofs.graph.CrsGraph.locate.Goals as goal

pub returns-in_default-find-clause-there : goal.returns-in_default-find-clause-there
returns-in_default-find-clause-there c =
    let g = c.args.self.now in
    let row = c.in-Some.ensures.place ∙ ap (λ xs. local_index xs c.args.row) c.deref.ensures ∙ ap (λ g. local_index g.rows c.args.row) c.self.view_is in
    let col = c.in-Some-local_of.ensures.place ∙ ap (λ xs. local_index xs c.args.col) c.deref-2.ensures ∙ ap (λ g. local_index g.cols c.args.col) c.self.view_is in
    sym (none_stands (graph_row g c.in-Some.lid) c.in-Some-local_of.col_lid (sym c.find.ensures.place ∙ c.in_default-find.is))
    ∙ (λ t. has_local_place g (row t) (col t))

pub returns-clause-there : goal.returns-clause-there
returns-clause-there c =
    let g = c.args.self.now in
    let row = c.in-Some.ensures.place ∙ ap (λ xs. local_index xs c.args.row) c.deref.ensures ∙ ap (λ g. local_index g.rows c.args.row) c.self.view_is in
    let col = c.in-Some-local_of.ensures.place ∙ ap (λ xs. local_index xs c.args.col) c.deref-2.ensures ∙ ap (λ g. local_index g.cols c.args.col) c.self.view_is in
    sym (some_stands (graph_row g c.in-Some.lid) c.in-Some-local_of.col_lid c.in-Some-find.at (sym c.in-Some-find.ensures.place))
    ∙ (λ t. has_local_place g (row t) (col t))
