use Rattle.std.proofs.Common.{◌∙◌, ap, sym, arith, length, length-append, ◌++◌, take, get_or}
use Rattle.std.specs.List.{flat_map}
use Rattle.std.proofs.lemmas.Option.{slice_get-get_or}
use Rattle.letter_codec.specs.Letters.{word_bytes}
use Rattle.distributor.specs.Entries.{entry_at}
use Rattle.distributor.specs.Packed.{sent_entries, words_for}
use Rattle.distributor.proofs.Written.{starts-as, words-both, words-sent, words-within, length-behind_words}
use Rattle.distributor.proofs.packing.put_words.Goals as goal

pub put_entry-at-requires-clause-room : goal.put_entry-at-requires-clause-room
put_entry-at-requires-clause-room g c =
    omega (arith, c.requires.room, c.loop-lid.invariant.at, c.loop-lid.auto.out, words-within c.args.kind (g.A.DistSource.entries c.args.source.now) c.args.list.now c.loop-lid.lid-index (get_or c.args.list.now c.loop-lid.lid-index 0) (slice_get-get_or c.args.list.now c.loop-lid.lid-index 0 c.loop-lid-test.true))

pub overflow_add-at : goal.overflow_add-at
overflow_add-at g c =
    omega (arith, c.requires.room, c.requires.small, c.loop-lid.invariant.at, c.put_entry-at.ensures.count, words-within c.args.kind (g.A.DistSource.entries c.args.source.now) c.args.list.now c.loop-lid.lid-index (get_or c.args.list.now c.loop-lid.lid-index 0) (slice_get-get_or c.args.list.now c.loop-lid.lid-index 0 c.loop-lid-test.true))

pub loop-lid-preserved : goal.loop-lid-preserved
loop-lid-preserved g c =
    let done = flat_map (words_for c.args.kind) (sent_entries (g.A.DistSource.entries c.args.source.now) (take c.loop-lid.lid-index c.args.list.now)) in
    let more = words-sent c.args.kind (g.A.DistSource.entries c.args.source.now) c.args.list.now c.loop-lid.lid-index (get_or c.args.list.now c.loop-lid.lid-index 0) (slice_get-get_or c.args.list.now c.loop-lid.lid-index 0 c.loop-lid-test.true) in
    record {
      at = omega (arith, c.loop-lid.invariant.at, c.put_entry-at.ensures.count, ap length more, length-append done (words_for c.args.kind (entry_at (g.A.DistSource.entries c.args.source.now) (get_or c.args.list.now c.loop-lid.lid-index 0))));
      next = λ before long starts.
          let here = length-behind_words before done _ long in
          starts-as _ _ _ (words-both before done (words_for c.args.kind (entry_at (g.A.DistSource.entries c.args.source.now) (get_or c.args.list.now c.loop-lid.lid-index 0))) ∙ ap (λ z. before ++ word_bytes z) (sym more))
          (c.put_entry-at.ensures.next (before ++ word_bytes done) (omega (arith, here, c.loop-lid.invariant.at)) (c.loop-lid.invariant.next before long starts));
    }
