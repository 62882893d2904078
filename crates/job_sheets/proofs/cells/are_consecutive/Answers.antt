use Rattle.std.proofs.Common.{refl, sym, subst}
use Rattle.tables.specs.Tables.{AreInOrder}
use Rattle.job_sheets.specs.Cells.{IsLast}
use Rattle.job_sheets.proofs.Lasts.{after-next, next-last, order-next}
use Rattle.job_sheets.proofs.Summed.{cells_in-more, piece-in_order}
use Rattle.job_sheets.proofs.cells.are_consecutive.Goals as goal

pub loop-piece-preserved : goal.loop-piece-preserved
loop-piece-preserved g c =
    let piece = c.piece-item.result in
    let i = c.loop-piece.piece-index in
    let done = c.loop-piece.invariant in
    let all = cells_in-more c.args.pieces.now i piece c.loop-piece-test.true c.piece-item.is in
    let in_order = piece-in_order c.args.pieces.now i piece c.loop-piece-test.true c.piece-item.is c.requires.in_order in
    let order = order-next _ piece.items c.loop-piece.last done.last done.order in_order
    (after-next c.loop-piece.last _ piece.items c.deref.ensures.value (c.if-not-all_after.ensures.after refl)) in
    record {
      order = subst AreInOrder (sym all) order;
      last = subst (λ cells. IsLast cells c.last_of-last.result) (sym all)
          (next-last _ _ piece.items c.last_of-last.result c.deref-in-loop-piece.ensures.value (c.last_of-last.ensures.last _ done.last) order);
    }
