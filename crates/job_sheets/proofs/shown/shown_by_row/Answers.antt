use Rattle.std.proofs.Common.{ap, sym, refl, ◌∙◌, map, filter}
use Rattle.std.proofs.lemmas.Result.{IfOk-weaker}
use Rattle.gathered_rows.specs.Blocks.{cells_in}
use Rattle.model_defs.specs.ShowText.{shown_cell}
use Rattle.tables.specs.Tables.{cells_of, found, table_of}
use Rattle.tables.proofs.Cells.{table_of-found}
use Rattle.job_sheets.specs.Cells.{is_within}
use Rattle.job_sheets.proofs.Places.{placed-same}
use Rattle.job_sheets.proofs.Summed.{rows-within, sum-cells_in}
use Rattle.job_sheets.proofs.shown.shown_by_row.Goals as goal

pub returns-then-are_consecutive : goal.returns-then-are_consecutive
returns-then-are_consecutive g c =
    let F = g.S.Scalar.conversions in
    let all = cells_in c.args.pieces.now in
    let order = c.if-are_consecutive.ensures.in_order refl in
    let same = rows-within g.met.S.Scalar.laws c.args.rows c.args.cols c.args.pieces.now all c.requires.in_order order (sym (table_of-found g.S.Scalar.semiring all order)) in
    record {
      shown = IfOk-weaker c.shown_in_turn.result _ _
          (λ v h. h ∙ ap (λ xs. map (shown_cell F) (filter (is_within c.args.rows c.args.cols) xs)) (placed-same all) ∙ ap (map (shown_cell F)) same)
          c.shown_in_turn.ensures.shown;
    }

pub returns : goal.returns
returns g c =
    let F = g.S.Scalar.conversions in
    let R = g.S.Scalar.semiring in
    let same = ap found c.deref.ensures.value ∙ c.in_ok-cells.ensures.cells ∙ ap (table_of R) (placed-same (cells_in c.args.pieces.now)) ∙ sum-cells_in g.met.S.Scalar.laws c.args.pieces.now c.requires.in_order in
    record {
      shown = IfOk-weaker c.shown_rows.result _ _ (λ v h. h ∙ ap (λ t. map (shown_cell F) (cells_of c.args.rows c.args.cols t)) same) c.shown_rows.ensures.shown;
    }
