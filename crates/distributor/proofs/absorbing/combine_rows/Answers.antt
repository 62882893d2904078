use Rattle.std.proofs.Common.{◌∙◌, ap, sym, arith, take, drop, ◌+◌, ◌≤◌, ◌<◌, length, get_or}
use Rattle.std.specs.List.{list_all, zip}
use Rattle.letter_codec.specs.Parts.{words_of}
use Rattle.distributor.specs.Entries.{entry_at, cells_for, with_cells}
use Rattle.distributor.specs.Arrivals.{numbers_in, with_numbers, arrived_moves}
use Rattle.distributor.proofs.Combined.{on_err, entry-taken, moves-more, moves-part, moves-all, part-of-same}
use Rattle.distributor.proofs.Arrived.{row-step, counted-step, rows-unique, slice_get-arrived, length-arrived}
use Rattle.distributor.proofs.absorbing.combine_rows.Goals as goal

pub overflow_add-words_done : goal.overflow_add-words_done
overflow_add-words_done g c =
    let rows = c.requires.rows.0 in
    let here = c.requires.rows.1 in
    let within : c.loop-at.at < length rows = omega (arith, c.requires.rows.2, c.loop-at-test.true) in
    let s = row-step (words_of c.args.letter.now.words.now) rows (numbers_in g.S.Scalar.conversions c.args.letter.now.numbers.now) c.loop-at.at c.loop-at.words_done c.loop-at.numbers_done within (c.loop-at.invariant.words rows here) (c.loop-at.invariant.entries rows here) (c.loop-at.invariant.count rows here) in
    omega (arith, s.within, c.requires.few)

pub word-count-requires : goal.word-count-requires
word-count-requires g c =
    let rows = c.requires.rows.0 in
    let here = c.requires.rows.1 in
    let within : c.loop-at.at < length rows = omega (arith, c.requires.rows.2, c.loop-at-test.true) in
    let s = row-step (words_of c.args.letter.now.words.now) rows (numbers_in g.S.Scalar.conversions c.args.letter.now.numbers.now) c.loop-at.at c.loop-at.words_done c.loop-at.numbers_done within (c.loop-at.invariant.words rows here) (c.loop-at.invariant.entries rows here) (c.loop-at.invariant.count rows here) in
    omega (arith, s.within)

pub overflow_add-words_done-in-loop-at : goal.overflow_add-words_done-in-loop-at
overflow_add-words_done-in-loop-at g c =
    let rows = c.requires.rows.0 in
    let here = c.requires.rows.1 in
    let within : c.loop-at.at < length rows = omega (arith, c.requires.rows.2, c.loop-at-test.true) in
    let s = counted-step (words_of c.args.letter.now.words.now) rows (numbers_in g.S.Scalar.conversions c.args.letter.now.numbers.now) c.loop-at.at c.loop-at.words_done c.loop-at.numbers_done c.word-count.result within (c.loop-at.invariant.words rows here) (c.loop-at.invariant.entries rows here) (c.loop-at.invariant.count rows here) c.word-count.ensures in
    omega (arith, s.within, c.requires.few)

pub overflow_add-words_done-in-loop-at-2 : goal.overflow_add-words_done-in-loop-at-2
overflow_add-words_done-in-loop-at-2 g c =
    let rows = c.requires.rows.0 in
    let here = c.requires.rows.1 in
    let within : c.loop-at.at < length rows = omega (arith, c.requires.rows.2, c.loop-at-test.true) in
    let s = counted-step (words_of c.args.letter.now.words.now) rows (numbers_in g.S.Scalar.conversions c.args.letter.now.numbers.now) c.loop-at.at c.loop-at.words_done c.loop-at.numbers_done c.word-count.result within (c.loop-at.invariant.words rows here) (c.loop-at.invariant.entries rows here) (c.loop-at.invariant.count rows here) c.word-count.ensures in
    omega (arith, s.within, c.requires.few)

pub overflow_add-words_done-in-loop-at-3 : goal.overflow_add-words_done-in-loop-at-3
overflow_add-words_done-in-loop-at-3 g c =
    let rows = c.requires.rows.0 in
    let here = c.requires.rows.1 in
    let within : c.loop-at.at < length rows = omega (arith, c.requires.rows.2, c.loop-at-test.true) in
    let s = counted-step (words_of c.args.letter.now.words.now) rows (numbers_in g.S.Scalar.conversions c.args.letter.now.numbers.now) c.loop-at.at c.loop-at.words_done c.loop-at.numbers_done c.word-count.result within (c.loop-at.invariant.words rows here) (c.loop-at.invariant.entries rows here) (c.loop-at.invariant.count rows here) c.word-count.ensures in
    omega (arith, s.within, c.requires.few)

pub combine_row-requires-clause-columns : goal.combine_row-requires-clause-columns
combine_row-requires-clause-columns g c =
    let rows = c.requires.rows.0 in
    let here = c.requires.rows.1 in
    let within : c.loop-at.at < length rows = omega (arith, c.requires.rows.2, c.loop-at-test.true) in
    let s = counted-step (words_of c.args.letter.now.words.now) rows (numbers_in g.S.Scalar.conversions c.args.letter.now.numbers.now) c.loop-at.at c.loop-at.words_done c.loop-at.numbers_done c.word-count.result within (c.loop-at.invariant.words rows here) (c.loop-at.invariant.entries rows here) (c.loop-at.invariant.count rows here) c.word-count.ensures in
    omega (arith, s.within, c.requires.few)

pub combine_row-requires-clause-small : goal.combine_row-requires-clause-small
combine_row-requires-clause-small g c =
    let rows = c.requires.rows.0 in
    let here = c.requires.rows.1 in
    let within : c.loop-at.at < length rows = omega (arith, c.requires.rows.2, c.loop-at-test.true) in
    let s = counted-step (words_of c.args.letter.now.words.now) rows (numbers_in g.S.Scalar.conversions c.args.letter.now.numbers.now) c.loop-at.at c.loop-at.words_done c.loop-at.numbers_done c.word-count.result within (c.loop-at.invariant.words rows here) (c.loop-at.invariant.entries rows here) (c.loop-at.invariant.count rows here) c.word-count.ensures in
    omega (arith, s.within, c.requires.few)

pub combine_row-requires-clause-numbers : goal.combine_row-requires-clause-numbers
combine_row-requires-clause-numbers g c =
    let rows = c.requires.rows.0 in
    let here = c.requires.rows.1 in
    let within : c.loop-at.at < length rows = omega (arith, c.requires.rows.2, c.loop-at-test.true) in
    let s = counted-step (words_of c.args.letter.now.words.now) rows (numbers_in g.S.Scalar.conversions c.args.letter.now.numbers.now) c.loop-at.at c.loop-at.words_done c.loop-at.numbers_done c.word-count.result within (c.loop-at.invariant.words rows here) (c.loop-at.invariant.entries rows here) (c.loop-at.invariant.count rows here) c.word-count.ensures in
    omega (arith, s.numbers_within, c.requires.rows.3)

pub overflow_add-numbers_done : goal.overflow_add-numbers_done
overflow_add-numbers_done g c =
    let rows = c.requires.rows.0 in
    let here = c.requires.rows.1 in
    let within : c.loop-at.at < length rows = omega (arith, c.requires.rows.2, c.loop-at-test.true) in
    let s = counted-step (words_of c.args.letter.now.words.now) rows (numbers_in g.S.Scalar.conversions c.args.letter.now.numbers.now) c.loop-at.at c.loop-at.words_done c.loop-at.numbers_done c.word-count.result within (c.loop-at.invariant.words rows here) (c.loop-at.invariant.entries rows here) (c.loop-at.invariant.count rows here) c.word-count.ensures in
    omega (arith, s.numbers_within, c.requires.rows.3, c.requires.small)

pub combine_row-requires-clause-taken : goal.combine_row-requires-clause-taken
combine_row-requires-clause-taken g c =
    let rows = c.requires.rows.0 in
    let here = c.requires.rows.1 in
    let within : c.loop-at.at < length rows = omega (arith, c.requires.rows.2, c.loop-at-test.true) in
    let s = counted-step (words_of c.args.letter.now.words.now) rows (numbers_in g.S.Scalar.conversions c.args.letter.now.numbers.now) c.loop-at.at c.loop-at.words_done c.loop-at.numbers_done c.word-count.result within (c.loop-at.invariant.words rows here) (c.loop-at.invariant.entries rows here) (c.loop-at.invariant.count rows here) c.word-count.ensures in
    (λ t. list_all (λ cell. c.loop-at.invariant.takes t cell.row cell.col) (cells_for (get_or c.args.positions.now c.loop-at.at 0) (record { gid = s.gid; cells = (zip (take c.word-count.result (drop (c.loop-at.words_done + 2) (words_of c.args.letter.now.words.now))) (take c.word-count.result (drop c.loop-at.numbers_done (numbers_in g.S.Scalar.conversions c.args.letter.now.numbers.now)))) })))
    ∙ ap (λ e. list_all (λ cell. g.B.DistTarget.takes c.args.target.now cell.row cell.col) (cells_for (get_or c.args.positions.now c.loop-at.at 0) e)) (sym s.entry)
    ∙ entry-taken (g.B.DistTarget.takes c.args.target.now) (with_numbers rows (numbers_in g.S.Scalar.conversions c.args.letter.now.numbers.now)) (arrived_moves c.args.positions.now) c.loop-at.at (c.loop-at.at, get_or c.args.positions.now c.loop-at.at 0) (slice_get-arrived c.args.positions.now c.loop-at.at c.loop-at-test.true) (c.requires.taken rows here)

pub returns-in_err-combine_row-clause-part : goal.returns-in_err-combine_row-clause-part
returns-in_err-combine_row-clause-part g c = λ others this.
    let rows = others in
    let here = this in
    let within : c.loop-at.at < length rows = omega (arith, c.requires.rows.2, c.loop-at-test.true, ap length (rows-unique others c.requires.rows.0 (sym this.0 ∙ c.requires.rows.1.0))) in
    let s = counted-step (words_of c.args.letter.now.words.now) rows (numbers_in g.S.Scalar.conversions c.args.letter.now.numbers.now) c.loop-at.at c.loop-at.words_done c.loop-at.numbers_done c.word-count.result within (c.loop-at.invariant.words rows here) (c.loop-at.invariant.entries rows here) (c.loop-at.invariant.count rows here) c.word-count.ensures in
    on_err _ (moves-part g.S.Scalar.semiring c.args.mode g.B.DistTarget.FIXED (g.B.DistTarget.table c.args.target.now) (with_numbers rows (numbers_in g.S.Scalar.conversions c.args.letter.now.numbers.now)) (arrived_moves c.args.positions.now) c.loop-at.at (c.loop-at.at, get_or c.args.positions.now c.loop-at.at 0) (g.B.DistTarget.table c.loop-at.target) _ (slice_get-arrived c.args.positions.now c.loop-at.at c.loop-at-test.true) (c.loop-at.invariant.so_far rows here)
    (part-of-same g.S.Scalar.semiring c.args.mode g.B.DistTarget.FIXED (g.B.DistTarget.table c.loop-at.target) (cells_for (get_or c.args.positions.now c.loop-at.at 0) (entry_at (with_numbers rows (numbers_in g.S.Scalar.conversions c.args.letter.now.numbers.now)) c.loop-at.at)) _ _ (ap (cells_for (get_or c.args.positions.now c.loop-at.at 0)) s.entry) c.in_err-combine_row.ensures.part))

pub loop-at-preserved : goal.loop-at-preserved
loop-at-preserved g c =
    record {
      words = λ others this.
          let rows = others in
          let here = this in
          let within : c.loop-at.at < length rows = omega (arith, c.requires.rows.2, c.loop-at-test.true, ap length (rows-unique others c.requires.rows.0 (sym this.0 ∙ c.requires.rows.1.0))) in
          let s = counted-step (words_of c.args.letter.now.words.now) rows (numbers_in g.S.Scalar.conversions c.args.letter.now.numbers.now) c.loop-at.at c.loop-at.words_done c.loop-at.numbers_done c.word-count.result within (c.loop-at.invariant.words rows here) (c.loop-at.invariant.entries rows here) (c.loop-at.invariant.count rows here) c.word-count.ensures in
          s.next_words;
      entries = λ others this.
          let rows = others in
          let here = this in
          let within : c.loop-at.at < length rows = omega (arith, c.requires.rows.2, c.loop-at-test.true, ap length (rows-unique others c.requires.rows.0 (sym this.0 ∙ c.requires.rows.1.0))) in
          let s = counted-step (words_of c.args.letter.now.words.now) rows (numbers_in g.S.Scalar.conversions c.args.letter.now.numbers.now) c.loop-at.at c.loop-at.words_done c.loop-at.numbers_done c.word-count.result within (c.loop-at.invariant.words rows here) (c.loop-at.invariant.entries rows here) (c.loop-at.invariant.count rows here) c.word-count.ensures in
          s.next_entries;
      count = λ others this.
          let rows = others in
          let here = this in
          let within : c.loop-at.at < length rows = omega (arith, c.requires.rows.2, c.loop-at-test.true, ap length (rows-unique others c.requires.rows.0 (sym this.0 ∙ c.requires.rows.1.0))) in
          let s = counted-step (words_of c.args.letter.now.words.now) rows (numbers_in g.S.Scalar.conversions c.args.letter.now.numbers.now) c.loop-at.at c.loop-at.words_done c.loop-at.numbers_done c.word-count.result within (c.loop-at.invariant.words rows here) (c.loop-at.invariant.entries rows here) (c.loop-at.invariant.count rows here) c.word-count.ensures in
          s.next_count;
      so_far = λ others this.
          let rows = others in
          let here = this in
          let within : c.loop-at.at < length rows = omega (arith, c.requires.rows.2, c.loop-at-test.true, ap length (rows-unique others c.requires.rows.0 (sym this.0 ∙ c.requires.rows.1.0))) in
          let s = counted-step (words_of c.args.letter.now.words.now) rows (numbers_in g.S.Scalar.conversions c.args.letter.now.numbers.now) c.loop-at.at c.loop-at.words_done c.loop-at.numbers_done c.word-count.result within (c.loop-at.invariant.words rows here) (c.loop-at.invariant.entries rows here) (c.loop-at.invariant.count rows here) c.word-count.ensures in
          moves-more g.S.Scalar.semiring c.args.mode g.B.DistTarget.FIXED (g.B.DistTarget.table c.args.target.now) (with_numbers rows (numbers_in g.S.Scalar.conversions c.args.letter.now.numbers.now)) (arrived_moves c.args.positions.now) c.loop-at.at (c.loop-at.at, get_or c.args.positions.now c.loop-at.at 0) (g.B.DistTarget.table c.loop-at.target) _ (slice_get-arrived c.args.positions.now c.loop-at.at c.loop-at-test.true) (c.loop-at.invariant.so_far rows here)
          (c.in_ok-combine_row.ensures.cells ∙ ap (λ e. with_cells g.S.Scalar.semiring c.args.mode g.B.DistTarget.FIXED (g.B.DistTarget.table c.loop-at.target) (cells_for (get_or c.args.positions.now c.loop-at.at 0) e)) (sym s.entry));
      takes = c.combine_row.ensures.takes ∙ c.loop-at.invariant.takes;
      shape = g.met.B.DistTarget.shape_trans _ _ _ c.loop-at.invariant.shape c.combine_row.ensures.shape;
    }

pub returns-clause-cells : goal.returns-clause-cells
returns-clause-cells g c = λ rows here.
    let size = length-arrived c.args.positions.now in
    let ends : length (arrived_moves c.args.positions.now) ≤ c.loop-at.at = omega (arith, size, c.loop-at-test.false) in
    moves-all g.S.Scalar.semiring c.args.mode g.B.DistTarget.FIXED (g.B.DistTarget.table c.args.target.now) (with_numbers rows (numbers_in g.S.Scalar.conversions c.args.letter.now.numbers.now)) (arrived_moves c.args.positions.now) c.loop-at.at _ ends (c.loop-at.invariant.so_far rows here)
