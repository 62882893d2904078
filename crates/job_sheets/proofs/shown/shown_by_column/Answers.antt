use Rattle.std.proofs.Common.{true, ap, ◌++◌, ◌∙◌, map}
use Rattle.model_defs.specs.ShowText.{shown_cell}
use Rattle.job_sheets.specs.Cells.{shown_within}
use Rattle.job_sheets.proofs.Summed.{columns-within}
use Rattle.job_sheets.proofs.shown.shown_by_column.Goals as goal

pub returns : goal.returns
returns g c =
    let F = g.S.Scalar.conversions in
    record {
      shown = c.in_ok-add_shown.ensures.shown
          ∙ ap (λ xs. xs ++ shown_within F true c.args.rows c.args.cols c.deref.result.now) c.new-shown.ensures.items
          ∙ ap (shown_within F true c.args.rows c.args.cols) c.deref.ensures.value
          ∙ ap (map (shown_cell F))
          (columns-within g.met.S.Scalar.laws c.args.rows c.args.cols c.args.pieces.now c.in_ok-cells.cells.items c.requires.in_order c.in_ok-cells.ensures.in_order c.in_ok-cells.ensures.cells);
    }
