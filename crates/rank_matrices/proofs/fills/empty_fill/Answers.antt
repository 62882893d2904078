use Rattle.std.proofs.Common.{map, subst, sym, ap, ◌∙◌}
use Rattle.tables.specs.Indices.{AreDistinct}
use Rattle.crs_graph.proofs.AllColumns.{ascending-ascends}
use Rattle.crs_graph.proofs.Ascending.{AreDistinct-ascending}
use Rattle.crs_matrix.specs.Rows.{row_table}
use Rattle.rank_matrices.specs.Matrices.{named_rows}
use Rattle.rank_matrices.proofs.NamedRows.{empty-rows}
use Rattle.rank_matrices.proofs.fills.empty_fill.Goals as goal

pub map_of-requires : goal.map_of-requires
map_of-requires g c =
    record {
      distinct = subst AreDistinct (sym (c.deref.ensures.value ∙ c.in_ok-rows.ensures.rows))
          (AreDistinct-ascending (named_rows c.args.lines.now) (ascending-ascends (map (λ l. l.row) c.args.lines.now)));
    }

pub returns-clause-rows : goal.returns-clause-rows
returns-clause-rows g c =
    ap (λ n. n.rows) c.in_ok-fill.ensures.empty ∙ c.in_ok-map.ensures.list ∙ c.deref.ensures.value ∙ c.in_ok-rows.ensures.rows

pub returns-clause-empty : goal.returns-clause-empty
returns-clause-empty g c =
    ap row_table c.in_ok-fill.ensures.empty ∙ empty-rows g.S.Scalar.semiring g.S.Scalar.conversions c.in_ok-map.map.value
