use Rattle.std.proofs.Common.{length, map, sym, ap, ◌∙◌}
use Rattle.std.specs.List.{concat}
use Rattle.crs_graph.specs.Ascending.{ascending}
use Rattle.crs_matrix.specs.Rows.{all_columns}
use Rattle.crs_matrix.specs.Stored.{columns_at, places_of}
use Rattle.crs_matrix.proofs.Kept.{row-values}
use Rattle.crs_matrix.proofs.Clauses.{columns-kept}
use Rattle.crs_matrix.proofs.fill.MatrixFill.columns.Goals as goal

pub returns : goal.returns
returns g c =
    let places = places_of c.self.inside.places.items in
    record {
      columns = c.in_ok-columns.ensures.columns
          ∙ ap ascending (c.deref-2.ensures.value ∙ c.in_ok-all.ensures.all ∙ ap (λ vs. concat (map columns_at (places_of vs))) c.deref.ensures.value
          ∙ ap concat (sym (columns-kept c.self.inside.values.items places (row-values c.self.inside.rows.value places (length c.self.inside.values.items) c.self.invariant))))
          ∙ ap all_columns c.self.view_is;
    }
