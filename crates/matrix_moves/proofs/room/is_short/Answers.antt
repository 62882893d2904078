use Rattle.std.proofs.Common.{arith, get_or}
use Rattle.std.proofs.lemmas.Option.{slice_get-get_or}
use Rattle.distributor.proofs.Written.{cells-sent}
use Rattle.matrix_moves.proofs.Sent.{few-more}
use Rattle.matrix_moves.proofs.room.is_short.Goals as goal

pub loop-lid-preserved : goal.loop-lid-preserved
loop-lid-preserved g c =
    let entries = g.A.DistSource.entries c.args.source.now in
    let list = c.args.list.now in
    let i = c.loop-lid.lid-index in
    let at = slice_get-get_or list i 0 c.loop-lid-test.true in
    let more = cells-sent entries list i (get_or list i 0) at in
    let count = c.count-count.ensures.count in
    let before = c.loop-lid.invariant.1 in (
      omega arith,
      omega (arith, more, count, before),
      few-more entries list i (get_or list i 0) at c.loop-lid.invariant.2 (omega (arith, count)),
    )
