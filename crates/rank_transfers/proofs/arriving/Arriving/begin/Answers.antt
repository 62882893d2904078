use Rattle.std.proofs.Common.{◌≡◌, ap, subst}
use Rattle.map_core.specs.Plans.{PlanLists}
use Rattle.rank_values.specs.Vectors.{global_table}
use Rattle.rank_transfers.specs.Arrivals.{after_table, own_rows}
use Rattle.rank_transfers.proofs.arriving.Arriving.begin.Goals as goal

pub returns-clause-rows : goal.returns-clause-rows
returns-clause-rows g c =
    let P : PlanLists → Type 0 = λ p. global_table c.local.new.y ≡ after_table g.S.Scalar.semiring c.args.mode (global_table c.args.target) (own_rows p c.args.source.now) in
    subst P (ap (λ t. t.plan) c.for_vectors-transfer.ensures.transfer) c.local.ensures.rows
