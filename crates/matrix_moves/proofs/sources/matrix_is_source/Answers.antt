use Rattle.std.proofs.Common.{List, ℕ, ap, ◌∙◌, subst}
use Rattle.tables.specs.Indices.{AreDistinct}
use Rattle.crs_matrix.specs.ByRow.{by_row}
use Rattle.crs_matrix.specs.Rows.{row_table}
use Rattle.matrix_moves.proofs.Given.{entries-are-rows, row-source}
use Rattle.matrix_moves.proofs.sources.matrix_is_source.Goals as goal

pub returns-clause-source : goal.returns-clause-source
returns-clause-source g c =
    let D : List ℕ → Type 0 = AreDistinct in
    row-source (by_row c.args.matrix.now) c.row_map.ensures.is_matrix (subst D (c.deref.ensures ∙ c.row_map.ensures.rows) c.len.ensures.distinct)

pub returns-clause-same : goal.returns-clause-same
returns-clause-same g c = entries-are-rows (by_row c.args.matrix.now) c.row_map.ensures.is_matrix

pub returns-clause-table : goal.returns-clause-table
returns-clause-table g c = ap row_table (entries-are-rows (by_row c.args.matrix.now) c.row_map.ensures.is_matrix) ∙ c.row_map.ensures.table
