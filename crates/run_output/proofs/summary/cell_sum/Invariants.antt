use Rattle.std.proofs.Common.{◌≡◌, take}
use Rattle.scalar_laws.specs.Weighed.{num_of}
use Rattle.run_output.specs.Summaries.{cell_sum}
use Rattle.run_output.proofs.summary.cell_sum.Given as goal

abbrev pub invariant-loop-cell : goal.invariant-loop-cell
invariant-loop-cell l = num_of l.sum ≡ cell_sum (take l.cell-index l.cells)
