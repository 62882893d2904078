use Rattle.std.proofs.Common.{take}
use Rattle.tables.specs.Tables.{AreInOrder}
use Rattle.rank_values.proofs.cells.are_in_order.Given as goal

abbrev pub invariant-loop-at : goal.invariant-loop-at
invariant-loop-at g l = AreInOrder (take l.at l.cells)
