use Rattle.std.proofs.Common.{◌∙◌, ap, sym, arith, ◌*◌, ◌+◌, ◌≤◌, Some, length}
use Rattle.distributor.specs.Entries.{cells_for, with_cells}
use Rattle.distributor.specs.Arrivals.{numbers_in}
use Rattle.distributor.proofs.Combined.{on_err, cell-taken, entry-more, part-at, take_whole}
use Rattle.distributor.proofs.Numbered.{numbered_entry, cell-numbered, length-numbered-cells}
use Rattle.distributor.proofs.Arrived.{number-in}
use Rattle.distributor.proofs.absorbing.combine_numbers.Goals as goal

pub combine-requires : goal.combine-requires
combine-requires g c =
    let fits : 32 * (c.args.at * c.args.width + c.loop-col.col) + 32 ≤ length c.args.letter.now.numbers.now = omega (arith, c.requires.within) in
    let cell = cell-numbered c.args.width 0 c.args.at c.loop-col.col (numbers_in g.S.Scalar.conversions c.args.letter.now.numbers.now) _ c.loop-col-test.true (number-in g.S.Scalar.conversions c.args.letter.now.numbers.now _ fits) in
    record { taken = (λ t. c.loop-col.invariant.takes t c.args.to c.loop-col.col) ∙ cell-taken (g.B.DistTarget.takes c.args.target.now) c.args.to (numbered_entry c.args.width 0 c.args.at (numbers_in g.S.Scalar.conversions c.args.letter.now.numbers.now)) c.loop-col.col _ c.requires.taken cell }

pub returns-in_err-combine-clause-part : goal.returns-in_err-combine-clause-part
returns-in_err-combine-clause-part g c =
    on_err _ (part-at g.S.Scalar.semiring c.args.mode g.B.DistTarget.FIXED (g.B.DistTarget.table c.args.target.now) (cells_for c.args.to (numbered_entry c.args.width 0 c.args.at (numbers_in g.S.Scalar.conversions c.args.letter.now.numbers.now))) c.loop-col.col (g.B.DistTarget.table c.loop-col.target) _ c.loop-col.invariant.so_far c.in_err-combine.ensures.err)

pub loop-col-preserved : goal.loop-col-preserved
loop-col-preserved g c =
    let fits : 32 * (c.args.at * c.args.width + c.loop-col.col) + 32 ≤ length c.args.letter.now.numbers.now = omega (arith, c.requires.within) in
    let cell = cell-numbered c.args.width 0 c.args.at c.loop-col.col (numbers_in g.S.Scalar.conversions c.args.letter.now.numbers.now) c.number-value.result c.loop-col-test.true (number-in g.S.Scalar.conversions c.args.letter.now.numbers.now _ fits ∙ ap Some (sym c.number-value.ensures)) in
    record {
      so_far = entry-more g.S.Scalar.semiring c.args.mode g.B.DistTarget.FIXED (g.B.DistTarget.table c.args.target.now) c.args.to (numbered_entry c.args.width 0 c.args.at (numbers_in g.S.Scalar.conversions c.args.letter.now.numbers.now)) c.loop-col.col (c.loop-col.col, c.number-value.result) (g.B.DistTarget.table c.loop-col.target) _ cell c.loop-col.invariant.so_far c.in_ok-combine.ensures.cell;
      takes = c.combine.ensures.takes ∙ c.loop-col.invariant.takes;
      shape = g.met.B.DistTarget.shape_trans _ _ _ c.loop-col.invariant.shape c.combine.ensures.shape;
    }

pub returns-clause-cells : goal.returns-clause-cells
returns-clause-cells g c =
    let few = length-numbered-cells c.args.to c.args.width 0 c.args.at (numbers_in g.S.Scalar.conversions c.args.letter.now.numbers.now) in
    let ends : length (cells_for c.args.to (numbered_entry c.args.width 0 c.args.at (numbers_in g.S.Scalar.conversions c.args.letter.now.numbers.now))) ≤ c.loop-col.col = omega (arith, few, c.loop-col-test.false) in
    c.loop-col.invariant.so_far ∙ ap (with_cells g.S.Scalar.semiring c.args.mode g.B.DistTarget.FIXED (g.B.DistTarget.table c.args.target.now)) (take_whole (cells_for c.args.to (numbered_entry c.args.width 0 c.args.at (numbers_in g.S.Scalar.conversions c.args.letter.now.numbers.now))) c.loop-col.col ends)
