use Rattle.std.proofs.Common.{◌≡◌, map, take}
use Rattle.run_output.proofs.page.values_of.Given as goal

abbrev pub invariant-loop-cell : goal.invariant-loop-cell
invariant-loop-cell l = l.values.items ≡ map (λ c. c.value) (take l.cell-index l.cells)
