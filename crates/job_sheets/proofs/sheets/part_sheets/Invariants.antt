use Rattle.std.proofs.Common.{◌≡◌, Some, map}
use Rattle.tables.specs.Indices.{count_from}
use Rattle.model_defs.specs.Sheets.{coordinate_sheet}
use Rattle.job_sheets.specs.Values.{table_at}
use Rattle.job_sheets.proofs.sheets.part_sheets.Given as goal

abbrev pub invariant-loop-rank : goal.invariant-loop-rank
invariant-loop-rank g l = l.sheets.items ≡ map (λ p. coordinate_sheet g.S.Scalar.conversions l.job l.shape (Some p) (table_at l.pieces p)) (count_from 0 l.rank)
