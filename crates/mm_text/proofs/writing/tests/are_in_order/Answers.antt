use Rattle.std.proofs.Common.{arith, refl}
use Rattle.mm_text.proofs.Orders.{ArePlacesInOrder-from_neighbours, NeighboursInOrder-more}
use Rattle.mm_text.proofs.writing.tests.are_in_order.Goals as goal

pub returns : goal.returns
returns c = λ _. ArePlacesInOrder-from_neighbours c.args.cells.now (λ j d inside. c.loop-k.invariant j d (omega arith))

pub loop-k-preserved : goal.loop-k-preserved
loop-k-preserved c = NeighboursInOrder-more c.args.cells.now c.loop-k.k _ (omega arith) (omega arith) c.loop-k.invariant
    (c.if-not-is_before.ensures refl)
