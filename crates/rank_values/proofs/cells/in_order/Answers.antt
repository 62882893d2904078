use Rattle.std.proofs.Common.{subst, refl}
use Rattle.tables.specs.Tables.{AreInOrder}
use Rattle.rank_values.proofs.InOrder.{found-summed}
use Rattle.rank_values.proofs.cells.in_order.Goals as goal

pub returns-then-are_in_order-clause-cells : goal.returns-then-are_in_order-clause-cells
returns-then-are_in_order-clause-cells g c =
    found-summed g.S.Scalar.semiring c.args.cells.items (subst AreInOrder c.deref.ensures.value (c.if-are_in_order.ensures.in_order refl))
