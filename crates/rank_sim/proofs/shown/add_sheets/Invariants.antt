use Rattle.std.proofs.Common.{◌≡◌, ◌++◌}
use Rattle.std.specs.Vec.Iter.{into_iter_items}
use Rattle.rank_sim.proofs.shown.add_sheets.Given as goal

abbrev pub invariant-loop-sheet : goal.invariant-loop-sheet
invariant-loop-sheet l = l.sheets.items ++ into_iter_items l.sheet-iterator ≡ l.fn.sheets.items ++ l.fn.more.items
