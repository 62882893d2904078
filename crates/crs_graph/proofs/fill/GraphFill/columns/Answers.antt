use Rattle.std.proofs.Common.{ap, ◌∙◌}
use Rattle.std.specs.List.{concat}
use Rattle.crs_graph.specs.Ascending.{ascending}
use Rattle.crs_graph.specs.Fills.{all_columns, columns_of}
use Rattle.crs_graph.proofs.fill.GraphFill.columns.Goals as goal

pub returns : goal.returns
returns c = record {
  columns = c.in_ok-columns.ensures.columns
      ∙ ap ascending (c.all.ensures.all ∙ ap concat (c.in_ok-packed.ensures.rows ∙ ap columns_of c.deref-2.ensures.value))
      ∙ ap all_columns c.self.view_is;
}
