use Rattle.std.proofs.Common.{◌∙◌, ap, sym, arith, take, drop, ◌*◌, ◌+◌, ◌≤◌, ◌<◌, Some, length}
use Rattle.std.specs.List.{zip}
use Rattle.std.proofs.lemmas.Option.{slice_get-get_or}
use Rattle.letter_codec.specs.Parts.{words_of}
use Rattle.distributor.specs.Entries.{Entry, cells_for, with_cells}
use Rattle.distributor.specs.Arrivals.{numbers_in}
use Rattle.distributor.proofs.Combined.{on_err, cell-taken, entry-more, part-at, take_whole}
use Rattle.distributor.proofs.Arrived.{number-in, row-cell, length-row-cells}
use Rattle.distributor.proofs.absorbing.combine_row.Goals as goal

pub overflow_add-first : goal.overflow_add-first
overflow_add-first g c = omega (arith, c.requires.small, c.loop-k-test.true)

pub combine-requires : goal.combine-requires
combine-requires g c =
    let e : Entry g.row.S.Denot = (record { gid = 0; cells = zip (take c.args.count (drop c.args.first (words_of c.args.letter.now.words.now))) (take c.args.count (drop c.args.numbers (numbers_in g.S.Scalar.conversions c.args.letter.now.numbers.now))) }) in
    let fits : 32 * (c.args.numbers + c.loop-k.k) + 32 ≤ length c.args.letter.now.numbers.now = omega (arith, c.requires.numbers, c.loop-k-test.true) in
    let here : c.args.first + c.loop-k.k < length (words_of c.args.letter.now.words.now) = omega (arith, c.requires.columns, c.loop-k-test.true) in
    let cell = row-cell (words_of c.args.letter.now.words.now) (numbers_in g.S.Scalar.conversions c.args.letter.now.numbers.now) c.args.first c.args.numbers c.args.count c.loop-k.k c.word-col.result _ c.loop-k-test.true
    (slice_get-get_or (words_of c.args.letter.now.words.now) (c.args.first + c.loop-k.k) 0 here ∙ ap Some (sym c.word-col.ensures)) (number-in g.S.Scalar.conversions c.args.letter.now.numbers.now _ fits) in
    record { taken = (λ t. c.loop-k.invariant.takes t c.args.to c.word-col.result) ∙ cell-taken (g.B.DistTarget.takes c.args.target.now) c.args.to e c.loop-k.k _ c.requires.taken cell }

pub returns-in_err-combine-clause-part : goal.returns-in_err-combine-clause-part
returns-in_err-combine-clause-part g c =
    let e : Entry g.row.S.Denot = (record { gid = 0; cells = zip (take c.args.count (drop c.args.first (words_of c.args.letter.now.words.now))) (take c.args.count (drop c.args.numbers (numbers_in g.S.Scalar.conversions c.args.letter.now.numbers.now))) }) in
    on_err _ (part-at g.S.Scalar.semiring c.args.mode g.B.DistTarget.FIXED (g.B.DistTarget.table c.args.target.now) (cells_for c.args.to e) c.loop-k.k (g.B.DistTarget.table c.loop-k.target) _ c.loop-k.invariant.so_far c.in_err-combine.ensures.err)

pub loop-k-preserved : goal.loop-k-preserved
loop-k-preserved g c =
    let e : Entry g.row.S.Denot = (record { gid = 0; cells = zip (take c.args.count (drop c.args.first (words_of c.args.letter.now.words.now))) (take c.args.count (drop c.args.numbers (numbers_in g.S.Scalar.conversions c.args.letter.now.numbers.now))) }) in
    let fits : 32 * (c.args.numbers + c.loop-k.k) + 32 ≤ length c.args.letter.now.numbers.now = omega (arith, c.requires.numbers, c.loop-k-test.true) in
    let here : c.args.first + c.loop-k.k < length (words_of c.args.letter.now.words.now) = omega (arith, c.requires.columns, c.loop-k-test.true) in
    let cell = row-cell (words_of c.args.letter.now.words.now) (numbers_in g.S.Scalar.conversions c.args.letter.now.numbers.now) c.args.first c.args.numbers c.args.count c.loop-k.k c.word-col.result c.number.result c.loop-k-test.true
    (slice_get-get_or (words_of c.args.letter.now.words.now) (c.args.first + c.loop-k.k) 0 here ∙ ap Some (sym c.word-col.ensures)) (number-in g.S.Scalar.conversions c.args.letter.now.numbers.now _ fits ∙ ap Some (sym c.number.ensures)) in
    record {
      so_far = entry-more g.S.Scalar.semiring c.args.mode g.B.DistTarget.FIXED (g.B.DistTarget.table c.args.target.now) c.args.to e c.loop-k.k (c.word-col.result, c.number.result) (g.B.DistTarget.table c.loop-k.target) _ cell c.loop-k.invariant.so_far c.in_ok-combine.ensures.cell;
      takes = c.combine.ensures.takes ∙ c.loop-k.invariant.takes;
      shape = g.met.B.DistTarget.shape_trans _ _ _ c.loop-k.invariant.shape c.combine.ensures.shape;
    }

pub returns-clause-cells : goal.returns-clause-cells
returns-clause-cells g c =
    let e : Entry g.row.S.Denot = (record { gid = 0; cells = zip (take c.args.count (drop c.args.first (words_of c.args.letter.now.words.now))) (take c.args.count (drop c.args.numbers (numbers_in g.S.Scalar.conversions c.args.letter.now.numbers.now))) }) in
    let few = length-row-cells c.args.to c.args.count (drop c.args.first (words_of c.args.letter.now.words.now)) (drop c.args.numbers (numbers_in g.S.Scalar.conversions c.args.letter.now.numbers.now)) in
    let ends : length (cells_for c.args.to e) ≤ c.loop-k.k = omega (arith, few, c.loop-k-test.false) in
    c.loop-k.invariant.so_far ∙ ap (with_cells g.S.Scalar.semiring c.args.mode g.B.DistTarget.FIXED (g.B.DistTarget.table c.args.target.now)) (take_whole (cells_for c.args.to e) c.loop-k.k ends)
