use Rattle.std.proofs.Common.{◌≡◌, take, get_or, [], ◌∷◌, ◌++◌, refl, sym, ap, ◌∙◌, arith}
use Rattle.std.specs.Prelude.{pos}
use Rattle.std.proofs.lemmas.List.{take_more}
use Rattle.mm_text.specs.declared.file_data.Line.{Line}
use Rattle.rank_values.specs.Vectors.{global_table, lines_on}
use Rattle.rank_values.proofs.Globals.{global-nought}
use Rattle.rank_values.proofs.lines.vector_of_lines.Goals as goal

abbrev no_line : Line
no_line = record { row = 0; col = 0; value = pos 0 }

pub loop-line-init : goal.loop-line-init
loop-line-init g c =
    let R = g.S.Scalar.semiring in
    let F = g.S.Scalar.conversions in
    let is = c.in_ok-vector.ensures.vector in
    record {
      same_map = refl;
      same_columns = refl;
      cells = ap global_table is ∙ global-nought R F c.args.map.value c.args.columns c.zero.result c.zero.ensures
          ∙ sym (λ t. lines_on R F (is t).map (is t).columns []);
    }

pub loop-line-preserved : goal.loop-line-preserved
loop-line-preserved g c =
    let R = g.S.Scalar.semiring in
    let F = g.S.Scalar.conversions in
    let start = c.in_ok-vector.vector in
    let v = c.loop-line.vector in
    let inv = c.loop-line.invariant in
    let before = take c.loop-line.line-index c.args.lines.now in
    record {
      same_map = c.add_line.ensures.same_map ∙ inv.same_map;
      same_columns = c.add_line.ensures.same_columns ∙ inv.same_columns;
      cells =
          c.add_line.ensures.cells before (inv.cells ∙ sym (λ t. lines_on R F (inv.same_map t) (inv.same_columns t) before))
          ∙ (λ t. lines_on R F (inv.same_map t) (inv.same_columns t) (before ++ get_or c.args.lines.now c.loop-line.line-index no_line ∷ []))
          ∙ ap (lines_on R F start.map start.columns) (sym (take_more c.args.lines.now c.loop-line.line-index no_line c.loop-line-test.true));
    }
