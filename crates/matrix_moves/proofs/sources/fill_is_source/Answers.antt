use Rattle.std.proofs.Common.{List, ℕ, ◌∙◌, subst}
use Rattle.tables.specs.Indices.{AreDistinct}
use Rattle.matrix_moves.proofs.Given.{entries-are-rows, row-source}
use Rattle.matrix_moves.proofs.sources.fill_is_source.Goals as goal

pub returns-clause-source : goal.returns-clause-source
returns-clause-source g c =
    let D : List ℕ → Type 0 = AreDistinct in
    row-source c.args.fill.now c.row_map.ensures.is_matrix (subst D (c.deref.ensures ∙ c.row_map.ensures.rows) c.len.ensures.distinct)

pub returns-clause-same : goal.returns-clause-same
returns-clause-same g c = entries-are-rows c.args.fill.now c.row_map.ensures.is_matrix
