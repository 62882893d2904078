use Rattle.std.proofs.Common.{◌∙◌, ap, sym, arith, ◌≤◌, ◌<◌, length, get_or}
use Rattle.std.specs.List.{list_all}
use Rattle.std.proofs.Math.Nat.{mul-le-mul_right}
use Rattle.letter_codec.specs.Parts.{words_of}
use Rattle.distributor.specs.Entries.{entry_at, cells_for, numbered, with_cells}
use Rattle.distributor.specs.Arrivals.{numbers_in, arrived_moves}
use Rattle.distributor.proofs.Combined.{on_err, entry-taken, moves-more, moves-part, moves-all, part-of-same}
use Rattle.distributor.proofs.Numbered.{numbered_entry, entry_at-numbered}
use Rattle.distributor.proofs.Arrived.{slice_get-arrived, length-arrived}
use Rattle.distributor.proofs.absorbing.combine_nums.Goals as goal

pub combine_numbers-requires-clause-within : goal.combine_numbers-requires-clause-within
combine_numbers-requires-clause-within g c =
    omega (arith, c.requires.numbers, mul-le-mul_right c.args.width c.loop-at-test.true)

pub combine_numbers-requires-clause-taken : goal.combine_numbers-requires-clause-taken
combine_numbers-requires-clause-taken g c =
    let within : c.loop-at.at < length (words_of c.args.letter.now.words.now) = omega (arith, c.requires.entries, c.loop-at-test.true) in
    let entry = entry_at-numbered c.args.width (words_of c.args.letter.now.words.now) (numbers_in g.S.Scalar.conversions c.args.letter.now.numbers.now) c.loop-at.at within in
    (λ t. list_all (λ cell. c.loop-at.invariant.takes t cell.row cell.col) (cells_for (get_or c.args.positions.now c.loop-at.at 0) (numbered_entry c.args.width 0 c.loop-at.at (numbers_in g.S.Scalar.conversions c.args.letter.now.numbers.now))))
    ∙ ap (λ e. list_all (λ cell. g.B.DistTarget.takes c.args.target.now cell.row cell.col) (cells_for (get_or c.args.positions.now c.loop-at.at 0) e)) (sym entry)
    ∙ entry-taken (g.B.DistTarget.takes c.args.target.now) (numbered c.args.width (words_of c.args.letter.now.words.now) (numbers_in g.S.Scalar.conversions c.args.letter.now.numbers.now)) (arrived_moves c.args.positions.now) c.loop-at.at (c.loop-at.at, get_or c.args.positions.now c.loop-at.at 0) (slice_get-arrived c.args.positions.now c.loop-at.at c.loop-at-test.true) c.requires.taken

pub returns-in_err-combine_numbers-clause-part : goal.returns-in_err-combine_numbers-clause-part
returns-in_err-combine_numbers-clause-part g c =
    let within : c.loop-at.at < length (words_of c.args.letter.now.words.now) = omega (arith, c.requires.entries, c.loop-at-test.true) in
    let entry = entry_at-numbered c.args.width (words_of c.args.letter.now.words.now) (numbers_in g.S.Scalar.conversions c.args.letter.now.numbers.now) c.loop-at.at within in
    let to = get_or c.args.positions.now c.loop-at.at 0 in
    on_err _ (moves-part g.S.Scalar.semiring c.args.mode g.B.DistTarget.FIXED (g.B.DistTarget.table c.args.target.now) (numbered c.args.width (words_of c.args.letter.now.words.now) (numbers_in g.S.Scalar.conversions c.args.letter.now.numbers.now)) (arrived_moves c.args.positions.now) c.loop-at.at (c.loop-at.at, get_or c.args.positions.now c.loop-at.at 0) (g.B.DistTarget.table c.loop-at.target) _ (slice_get-arrived c.args.positions.now c.loop-at.at c.loop-at-test.true) c.loop-at.invariant.so_far
    (part-of-same g.S.Scalar.semiring c.args.mode g.B.DistTarget.FIXED (g.B.DistTarget.table c.loop-at.target) (cells_for to (entry_at (numbered c.args.width (words_of c.args.letter.now.words.now) (numbers_in g.S.Scalar.conversions c.args.letter.now.numbers.now)) c.loop-at.at)) _ _ (ap (cells_for to) entry) c.in_err-combine_numbers.ensures.part))

pub loop-at-preserved : goal.loop-at-preserved
loop-at-preserved g c =
    let within : c.loop-at.at < length (words_of c.args.letter.now.words.now) = omega (arith, c.requires.entries, c.loop-at-test.true) in
    let entry = entry_at-numbered c.args.width (words_of c.args.letter.now.words.now) (numbers_in g.S.Scalar.conversions c.args.letter.now.numbers.now) c.loop-at.at within in
    let to = get_or c.args.positions.now c.loop-at.at 0 in
    record {
      so_far = moves-more g.S.Scalar.semiring c.args.mode g.B.DistTarget.FIXED (g.B.DistTarget.table c.args.target.now) (numbered c.args.width (words_of c.args.letter.now.words.now) (numbers_in g.S.Scalar.conversions c.args.letter.now.numbers.now)) (arrived_moves c.args.positions.now) c.loop-at.at (c.loop-at.at, get_or c.args.positions.now c.loop-at.at 0) (g.B.DistTarget.table c.loop-at.target) _ (slice_get-arrived c.args.positions.now c.loop-at.at c.loop-at-test.true) c.loop-at.invariant.so_far
          (c.in_ok-combine_numbers.ensures.cells ∙ ap (λ e. with_cells g.S.Scalar.semiring c.args.mode g.B.DistTarget.FIXED (g.B.DistTarget.table c.loop-at.target) (cells_for to e)) (sym entry));
      takes = c.combine_numbers.ensures.takes ∙ c.loop-at.invariant.takes;
      shape = g.met.B.DistTarget.shape_trans _ _ _ c.loop-at.invariant.shape c.combine_numbers.ensures.shape;
    }

pub returns-clause-cells : goal.returns-clause-cells
returns-clause-cells g c =
    let size = length-arrived c.args.positions.now in
    let ends : length (arrived_moves c.args.positions.now) ≤ c.loop-at.at = omega (arith, size, c.loop-at-test.false) in
    moves-all g.S.Scalar.semiring c.args.mode g.B.DistTarget.FIXED (g.B.DistTarget.table c.args.target.now) (numbered c.args.width (words_of c.args.letter.now.words.now) (numbers_in g.S.Scalar.conversions c.args.letter.now.numbers.now)) (arrived_moves c.args.positions.now) c.loop-at.at _ ends c.loop-at.invariant.so_far
