use Rattle.std.proofs.Common.{ap, ◌∙◌}
use Rattle.rank_matrices.specs.Matrices.{named_rows}
use Rattle.rank_matrices.proofs.DealtRows.{law-of-rank_rows, law-of-tables}
use Rattle.rank_values.specs.Vectors.{lines_table}
use Rattle.rank_pieces.proofs.Clauses.{if-ok}
use Rattle.rank_pieces.proofs.dealt.dealt_fill.Goals as goal

pub returns-clause-rows : goal.returns-clause-rows
returns-clause-rows g c =
    if-ok c.fill_of_lines.result c.fill_of_lines.ensures.rows (λ m rows files input.
    rows
    ∙ ap named_rows (c.lines_of.ensures.lines files input)
    ∙ law-of-rank_rows c.args.job.now files input.valid input.fitting c.args.k c.args.me c.requires.matrix.0 c.requires.known c.requires.matrix.1)

pub returns-clause-table : goal.returns-clause-table
returns-clause-table g c =
    let R = g.S.Scalar.semiring in
    let F = g.S.Scalar.conversions in
    if-ok c.fill_of_lines.result c.fill_of_lines.ensures.table (λ m table files input.
    table ∙ ap (lines_table R F) (c.lines_of.ensures.lines files input) ∙ law-of-tables R F c.args.job.now files c.args.k c.args.me)
