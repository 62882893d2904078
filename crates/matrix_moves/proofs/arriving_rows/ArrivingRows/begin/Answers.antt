use Rattle.std.proofs.Common.{◌≡◌, ap, subst}
use Rattle.map_core.specs.Plans.{PlanLists}
use Rattle.crs_matrix.specs.Rows.{row_table}
use Rattle.matrix_moves.specs.Sources.{as_rows, own_rows}
use Rattle.matrix_moves.specs.Arrivals.{after_table}
use Rattle.matrix_moves.proofs.arriving_rows.ArrivingRows.begin.Goals as goal

pub returns-clause-table : goal.returns-clause-table
returns-clause-table g c =
    let P : PlanLists → Type 0 = λ p. row_table c.local.new.target ≡ after_table g.S.Scalar.semiring c.args.mode (row_table c.args.target) (own_rows p (as_rows (g.A.DistSource.entries c.args.source.now))) in
    subst P (ap (λ t. t.plan) c.for_rows-transfer.ensures.transfer) c.in_ok-local.ensures.table
