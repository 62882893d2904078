use Rattle.std.proofs.Common.{sym, ap, ◌∙◌}
use Rattle.rank_pieces.specs.Pieces.{piece_table}
use Rattle.rank_pieces.proofs.Clauses.{if-ok}
use Rattle.rank_pieces.proofs.pieces.piece_cells.Goals as goal

pub returns-in-Vector-clause-cells : goal.returns-in-Vector-clause-cells
returns-in-Vector-clause-cells g c = if-ok c.global_cells.result c.global_cells.ensures.cells (λ cells same. same ∙ sym (ap piece_table c.in-Vector.is))

pub returns-in-Matrix-clause-cells : goal.returns-in-Matrix-clause-cells
returns-in-Matrix-clause-cells g c = if-ok c.matrix_cells.result c.matrix_cells.ensures.cells (λ cells same. same ∙ sym (ap piece_table c.in-Matrix.is))
