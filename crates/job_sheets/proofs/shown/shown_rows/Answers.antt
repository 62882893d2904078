use Rattle.std.proofs.Common.{false, ap, ◌++◌, ◌∙◌, map, filter}
use Rattle.model_defs.specs.ShowText.{shown_cell}
use Rattle.job_sheets.specs.Cells.{is_within, shown_within}
use Rattle.job_sheets.proofs.Places.{placed-same, within-cells_of}
use Rattle.job_sheets.proofs.shown.shown_rows.Goals as goal

pub returns : goal.returns
returns g c =
    let F = g.S.Scalar.conversions in
    record {
      shown = c.in_ok-add_shown.ensures.shown
          ∙ ap (λ xs. xs ++ shown_within F false c.args.rows c.args.cols c.args.cells.now) c.new-shown.ensures.items
          ∙ ap (λ xs. map (shown_cell F) (filter (is_within c.args.rows c.args.cols) xs)) (placed-same c.args.cells.now)
          ∙ ap (map (shown_cell F)) (within-cells_of c.args.rows c.args.cols c.args.cells.now c.requires.in_order);
    }
