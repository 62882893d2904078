use Rattle.std.proofs.Common.{◌≡◌, true, take, get_or, subst, sym, ap, ◌∙◌}
use Rattle.std.specs.Prelude.{pos}
use Rattle.std.proofs.lemmas.List.{take_all, take_more}
use Rattle.std.proofs.lemmas.List.Elements.{All-get_or}
use Rattle.tables.specs.Indices.{stands}
use Rattle.mm_text.specs.declared.file_data.Line.{Line}
use Rattle.rank_values.specs.Vectors.{lines_table}
use Rattle.rank_matrices.proofs.fills.add_lines.Goals as goal

abbrev no_line : Line
no_line = record { row = 0; col = 0; value = pos 0 }

pub add_line-requires : goal.add_line-requires
add_line-requires g c =
    record {
      row = subst (λ rows. stands (get_or c.args.lines.now c.loop-line.line-index no_line).row rows ≡ true) (sym c.loop-line.invariant.rows)
          (All-get_or (λ l. stands l.row c.args.fill.now.rows ≡ true) c.args.lines.now c.loop-line.line-index no_line c.loop-line-test.true c.requires.rows);
    }

pub loop-line-preserved : goal.loop-line-preserved
loop-line-preserved g c =
    let R = g.S.Scalar.semiring in
    let F = g.S.Scalar.conversions in
    record {
      rows = c.add_line.ensures.rows ∙ c.loop-line.invariant.rows;
      table = c.in_ok-add_line.ensures.place (take c.loop-line.line-index c.args.lines.now) c.loop-line.invariant.table
          ∙ ap (lines_table R F) (sym (take_more c.args.lines.now c.loop-line.line-index no_line c.loop-line-test.true));
    }

pub returns-clause-table : goal.returns-clause-table
returns-clause-table g c =
    c.loop-line.invariant.table
    ∙ ap (lines_table g.S.Scalar.semiring g.S.Scalar.conversions) (take_all c.loop-line.line-index c.args.lines.now c.loop-line-test.false)
