use Rattle.std.proofs.Common.{arith, length, ◌≤◌, ◌++◌, take}
use Rattle.letter_codec.specs.Letters.{number_bytes}
use Rattle.distributor.specs.Entries.{entry_at}
use Rattle.distributor.specs.Packed.{numbers_of}
use Rattle.distributor.proofs.Written.{number-next, length-taken_numbers, length-behind_numbers}
use Rattle.distributor.proofs.packing.put_cells.Goals as goal

pub loop-k-preserved : goal.loop-k-preserved
loop-k-preserved g c = λ before long starts.
    let e = (entry_at (g.A.DistSource.entries c.args.source.now) c.args.lid) in
    let few : c.loop-k.k ≤ length e.cells = omega (arith, c.loop-k-test.true, c.count-count.ensures.count) in
    let here = length-behind_numbers g.S.Scalar.conversions g.met.S.Scalar.conversion_laws before (take c.loop-k.k (numbers_of e)) _ long in
    number-next g.S.Scalar.conversions g.met.S.Scalar.conversion_laws before _ e c.loop-k.k c.cell-value.result c.cell-value.ensures.cell
    (c.put_number.ensures.next (before ++ number_bytes g.S.Scalar.conversions (take c.loop-k.k (numbers_of e))) (omega (arith, here, length-taken_numbers e c.loop-k.k few)) (c.loop-k.invariant before long starts))
