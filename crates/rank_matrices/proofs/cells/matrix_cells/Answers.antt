use Rattle.rank_values.proofs.Blocks.{then-found}
use Rattle.rank_matrices.proofs.cells.matrix_cells.Goals as goal

pub returns-clause-cells : goal.returns-clause-cells
returns-clause-cells g c =
    then-found g.S.Scalar.semiring c.in_order.result c.in_ok-cells.cells c.in_order.ensures.cells c.in_ok-cells.ensures.cells
