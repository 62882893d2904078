use Rattle.std.proofs.Common.{◌<◌, [], ◌∷◌, ◌++◌, Some, length, ap, sym, ◌∙◌, arith}
use Rattle.model_defs.specs.Sheets.{coordinate_sheet}
use Rattle.tables.specs.Tables.{found}
use Rattle.job_sheets.specs.Values.{table_at}
use Rattle.job_sheets.proofs.Counts.{each-push}
use Rattle.job_sheets.proofs.Summed.{table-at}
use Rattle.job_sheets.proofs.sheets.part_sheets.Goals as goal

pub loop-rank-preserved : goal.loop-rank-preserved
loop-rank-preserved g c =
    let F = g.S.Scalar.conversions in
    let pieces = c.args.pieces.now in
    let p = c.loop-rank.rank in
    let low : p < length pieces = (let test = c.loop-rank-test.true in let many = c.requires.pieces in omega arith) in
    let same = ap found c.deref.ensures.value ∙ sym (table-at pieces p c.index-pieces-rank.result low c.index-pieces-rank.is) in
    let sheet = c.in_ok-part_sheet.ensures.sheet ∙ ap (coordinate_sheet F c.args.job.now c.args.shape (Some p)) same in
    c.in_ok-push.ensures.items
    ∙ (λ t. c.loop-rank.invariant t ++ sheet t ∷ [])
    ∙ sym (each-push (λ p. coordinate_sheet F c.args.job.now c.args.shape (Some p) (table_at pieces p)) p)
