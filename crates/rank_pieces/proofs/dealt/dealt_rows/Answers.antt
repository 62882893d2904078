use Rattle.std.proofs.Common.{ap, ◌∙◌}
use Rattle.rank_matrices.specs.Matrices.{named_rows}
use Rattle.rank_matrices.proofs.DealtRows.{law-of-rank_rows}
use Rattle.rank_pieces.proofs.Clauses.{if-ok}
use Rattle.rank_pieces.proofs.dealt.dealt_rows.Goals as goal

pub returns : goal.returns
returns g c = record {
  rows = if-ok c.rows_of_lines.result c.rows_of_lines.ensures.rows (λ rows is files input.
      is
      ∙ ap named_rows (c.lines_of.ensures.lines files input)
      ∙ law-of-rank_rows c.args.job.now files input.valid input.fitting c.args.k c.args.me c.requires.matrix.0 c.requires.known c.requires.matrix.1);
}
