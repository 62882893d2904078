use Rattle.std.proofs.Common.{ap, ◌∙◌, sym, subst, nat_eq, position}
use Rattle.crs_graph.specs.Ascending.{IsAscending}
use Rattle.crs_graph.proofs.Searches.{searched_place}
use Rattle.crs_graph.proofs.graph.CrsGraph.find.Goals as goal

pub returns-clause-place : goal.returns-clause-place
returns-clause-place c =
    let row = c.row.result.now in
    let up = subst IsAscending (sym c.row.ensures.columns) (c.row.ensures.is_graph.ascend c.args.lid) in
    c.ok.ensures.value
    ∙ searched_place row c.args.col c.binary_search.result up c.binary_search.ensures.position
    ∙ ap (position (nat_eq c.args.col)) c.row.ensures.columns
