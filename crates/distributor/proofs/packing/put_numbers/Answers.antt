use Rattle.std.proofs.Common.{◌∙◌, ap, sym, arith, ◌++◌, take, get_or}
use Rattle.std.specs.List.{flat_map}
use Rattle.std.proofs.lemmas.Option.{slice_get-get_or}
use Rattle.letter_codec.specs.Letters.{number_bytes}
use Rattle.distributor.specs.Entries.{entry_at}
use Rattle.distributor.specs.Packed.{sent_entries, numbers_of}
use Rattle.distributor.proofs.Written.{starts-as, numbers-both, numbers-sent, cells-sent, cells-within, length-behind_numbers, length-numbers_sent}
use Rattle.distributor.proofs.packing.put_numbers.Goals as goal

pub put_cells-at-requires-clause-room : goal.put_cells-at-requires-clause-room
put_cells-at-requires-clause-room g c =
    omega (arith, c.requires.room, c.loop-lid.invariant.at, c.loop-lid.auto.out, cells-within (g.A.DistSource.entries c.args.source.now) c.args.list.now c.loop-lid.lid-index (get_or c.args.list.now c.loop-lid.lid-index 0) (slice_get-get_or c.args.list.now c.loop-lid.lid-index 0 c.loop-lid-test.true))

pub overflow_add-at : goal.overflow_add-at
overflow_add-at g c =
    omega (arith, c.requires.room, c.requires.small, c.loop-lid.invariant.at, c.put_cells-at.ensures.count, cells-within (g.A.DistSource.entries c.args.source.now) c.args.list.now c.loop-lid.lid-index (get_or c.args.list.now c.loop-lid.lid-index 0) (slice_get-get_or c.args.list.now c.loop-lid.lid-index 0 c.loop-lid-test.true))

pub loop-lid-preserved : goal.loop-lid-preserved
loop-lid-preserved g c =
    record {
      at = omega (arith, c.loop-lid.invariant.at, c.put_cells-at.ensures.count, cells-sent (g.A.DistSource.entries c.args.source.now) c.args.list.now c.loop-lid.lid-index (get_or c.args.list.now c.loop-lid.lid-index 0) (slice_get-get_or c.args.list.now c.loop-lid.lid-index 0 c.loop-lid-test.true));
      next = λ before long starts.
          let done = flat_map numbers_of (sent_entries (g.A.DistSource.entries c.args.source.now) (take c.loop-lid.lid-index c.args.list.now)) in
          let here = length-behind_numbers g.S.Scalar.conversions g.met.S.Scalar.conversion_laws before done _ long in
          starts-as _ _ _ (numbers-both g.S.Scalar.conversions g.met.S.Scalar.conversion_laws before done (numbers_of (entry_at (g.A.DistSource.entries c.args.source.now) (get_or c.args.list.now c.loop-lid.lid-index 0))) ∙ ap (λ z. before ++ number_bytes g.S.Scalar.conversions z) (sym (numbers-sent (g.A.DistSource.entries c.args.source.now) c.args.list.now c.loop-lid.lid-index (get_or c.args.list.now c.loop-lid.lid-index 0) (slice_get-get_or c.args.list.now c.loop-lid.lid-index 0 c.loop-lid-test.true))))
          (c.put_cells-at.ensures.next (before ++ number_bytes g.S.Scalar.conversions done) (omega (arith, here, c.loop-lid.invariant.at, length-numbers_sent (sent_entries (g.A.DistSource.entries c.args.source.now) (take c.loop-lid.lid-index c.args.list.now)))) (c.loop-lid.invariant.next before long starts));
    }
