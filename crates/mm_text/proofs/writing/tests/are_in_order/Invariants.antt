use Rattle.mm_text.proofs.Orders.{NeighboursInOrder}
use Rattle.mm_text.proofs.writing.tests.are_in_order.Given as goal

abbrev pub invariant-loop-k : goal.invariant-loop-k
invariant-loop-k l = NeighboursInOrder l.cells l.k
