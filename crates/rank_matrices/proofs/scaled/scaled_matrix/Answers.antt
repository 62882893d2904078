use Rattle.std.proofs.Common.{ap, ◌∙◌}
use Rattle.crs_matrix.specs.Matrices.{crs_table}
use Rattle.model_defs.specs.Operations.{scaled}
use Rattle.rank_matrices.proofs.scaled.scaled_matrix.Goals as goal

pub returns-clause-table : goal.returns-clause-table
returns-clause-table g c = c.scale.ensures.numbers ∙ ap (λ m. scaled g.S.Scalar.semiring c.args.alpha (crs_table m)) c.in_ok-copy.ensures.same
