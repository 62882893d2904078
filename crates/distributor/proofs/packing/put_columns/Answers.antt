use Rattle.std.proofs.Common.{arith, length, ◌≤◌, ◌++◌, take}
use Rattle.letter_codec.specs.Letters.{word_bytes}
use Rattle.distributor.specs.Entries.{entry_at, columns_of}
use Rattle.distributor.proofs.Written.{column-next, length-taken_columns, length-behind_words}
use Rattle.distributor.proofs.packing.put_columns.Goals as goal

pub loop-k-preserved : goal.loop-k-preserved
loop-k-preserved g c = λ before long starts.
    let e = (entry_at (g.A.DistSource.entries c.args.source.now) c.args.lid) in
    let few : c.loop-k.k ≤ length e.cells = omega (arith, c.loop-k-test.true, c.count-k-end.ensures.count) in
    let here = length-behind_words before (take c.loop-k.k (columns_of e)) _ long in
    column-next before c.loop-k.out _ e c.loop-k.k c.cell-col.result c.cell-col.ensures.cell
    (c.put_word.ensures.next (before ++ word_bytes (take c.loop-k.k (columns_of e))) (omega (arith, here, length-taken_columns e c.loop-k.k few)) (c.loop-k.invariant before long starts))
