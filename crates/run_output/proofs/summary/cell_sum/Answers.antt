use Rattle.std.proofs.Common.{◌≡◌, get_or, pos, rules, unsigned_abs}
use Rattle.mm_text.specs.declared.shown.Shown.{Shown}
use Rattle.scalar_laws.specs.Number.{new_number}
use Rattle.scalar_laws.specs.Weighed.{num_of}
use Rattle.run_output.proofs.Sums.{sum-next}
use Rattle.run_output.proofs.summary.cell_sum.Goals as goal

pub loop-cell-preserved : goal.loop-cell-preserved
loop-cell-preserved c =
    let none : Shown = record { row = 0; col = 0; value = pos 0 } in
    let value = (get_or c.args.cells.now c.loop-cell.cell-index none).value in
    let weight : c.unsigned_abs.result ≡ unsigned_abs value = search rules in
    let new : num_of c.new.result ≡ new_number value c.unsigned_abs.result = search rules in
    sum-next c.args.cells.now c.loop-cell.cell-index none c.unsigned_abs.result c.loop-cell.sum c.new.result c.add-sum.result c.loop-cell-test.true c.loop-cell.invariant
    weight new c.add-sum.ensures
