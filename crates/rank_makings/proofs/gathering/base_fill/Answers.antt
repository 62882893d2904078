use Rattle.std.proofs.Common.{ap, ◌∙◌}
use Rattle.crs_matrix.specs.Rows.{row_table}
use Rattle.matrix_moves.proofs.Empty.{new-matrices-are-empty}
use Rattle.rank_makings.proofs.CopyAnswers.{if-ok}
use Rattle.rank_makings.proofs.gathering.base_fill.Goals as goal

pub returns-in_ok-map-in-None-clause-none : goal.returns-in_ok-map-in-None-clause-none
returns-in_ok-map-in-None-clause-none g c = if-ok c.new.result c.new.ensures.empty (λ fill is none. ap row_table is ∙ new-matrices-are-empty _)
