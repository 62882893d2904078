use Rattle.std.proofs.Common.{◌∙◌, ap}
use Rattle.job_sheets.specs.Values.{sheets_of_pieces}
use Rattle.rank_sim.proofs.PiecesShown.{if-ok, pieces-shown}
use Rattle.rank_sim.proofs.shown.sheets_of_value.Goals as goal

pub returns : goal.returns
returns g c =
    let R = g.S.Scalar.semiring in
    let F = g.S.Scalar.conversions in
    let job = c.args.job.now in
    record {
      sheets = if-ok c.value_sheets.result c.value_sheets.ensures.sheets (λ sheets is files letters all.
          is ∙ ap (sheets_of_pieces R F job c.args.value) c.deref.ensures.value
          ∙ pieces-shown R F job files letters c.args.value c.in_ok-pieces.pieces.items (c.in_ok-pieces.ensures.cells job files letters all));
    }
