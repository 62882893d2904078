use Rattle.std.proofs.Common.{arith, get_or}
use Rattle.std.proofs.lemmas.Option.{slice_get-get_or}
use Rattle.distributor.proofs.Written.{cells-within}
use Rattle.distributor.proofs.packing.count_cells.Goals as goal

pub overflow_add-cells : goal.overflow_add-cells
overflow_add-cells g c =
    omega (arith, c.requires.fits, c.loop-lid.invariant, c.count-cells.ensures.count, cells-within (g.A.DistSource.entries c.args.source.now) c.args.list.now c.loop-lid.lid-index (get_or c.args.list.now c.loop-lid.lid-index 0) (slice_get-get_or c.args.list.now c.loop-lid.lid-index 0 c.loop-lid-test.true))
