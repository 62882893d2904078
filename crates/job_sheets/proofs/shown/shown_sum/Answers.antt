use Rattle.std.proofs.Common.{ap, ◌∙◌, map}
use Rattle.std.proofs.lemmas.Result.{IfOk-weaker}
use Rattle.model_defs.specs.ShowText.{shown_cell}
use Rattle.job_sheets.specs.Cells.{sum_of_pieces}
use Rattle.job_sheets.proofs.Places.{either_order}
use Rattle.job_sheets.proofs.shown.shown_sum.Goals as goal

pub returns : goal.returns
returns g c =
    let same = either_order c.args.by_column c.args.rows c.args.cols (sum_of_pieces g.S.Scalar.semiring c.args.pieces.now) c.else-by_column.either in
    record {
      shown = IfOk-weaker c.shown_by_row.result _ _ (λ v h. h ∙ ap (map (shown_cell g.S.Scalar.conversions)) same) c.shown_by_row.ensures.shown;
    }
