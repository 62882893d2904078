use Rattle.std.proofs.Common.{◌≡◌, false, map, take}
use Rattle.std.specs.List.{list_any}
use Rattle.model_defs.specs.ShowText.{shown_cell}
use Rattle.tpx.proofs.shown.shown_cells.Given as goal

abbrev pub invariant-loop-cell : goal.invariant-loop-cell
invariant-loop-cell g l = record {
  shown : l.shown.items ≡ map (shown_cell g.S.Scalar.conversions) (take l.cell-index l.cells);
  none_over : list_any (λ c. g.S.Scalar.conversions.is_over c.value) (take l.cell-index l.cells) ≡ false;
}
