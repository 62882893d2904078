use Rattle.std.proofs.Common.{ap, ◌∙◌}
use Rattle.rank_makings.proofs.Completed.{columns-shared, completed}
use Rattle.rank_makings.proofs.making.completed_matrix.Goals as goal

pub structure_plan-requires-clause-shared : goal.structure_plan-requires-clause-shared
structure_plan-requires-clause-shared g c =
    let can = c.requires.can.1.1.1.1.1 in
    let is = c.in_ok-matrix.ensures.matrix c.requires.can.0 c.requires.can.1.0 c.requires.can.1.1.0 c.requires.can.1.1.1.0 c.requires.can.1.1.1.1.0 can in
    (c.requires.can.0, (can.columns, columns-shared can is (c.col_map.ensures.cols ∙ ap (λ g. g.cols) (c.deref.ensures ∙ c.graph.ensures.graph))))

pub row_plan-requires : goal.row_plan-requires
row_plan-requires g c =
    let can = c.requires.can.1.1.1.1.1 in
    let is = c.in_ok-matrix.ensures.matrix c.requires.can.0 c.requires.can.1.0 c.requires.can.1.1.0 c.requires.can.1.1.1.0 c.requires.can.1.1.1.1.0 can in
    record {
      can = (
        c.requires.can.0,
        (
          c.requires.can.1.0,
          (
            c.requires.can.1.1.0,
            (
              c.requires.can.1.1.1.0,
              (
                c.requires.can.1.1.1.1.0,
                (c.args.fill, (can, c.row_map.ensures.rows ∙ is.rows)),
              ),
            ),
          ),
        ),
      );
    }

pub returns : goal.returns
returns g c = record {
  piece = λ files me given share pieces can.
      let is = c.in_ok-matrix.ensures.matrix files me given share pieces can in
      completed can is c.col_map.result.now.value (c.col_map.ensures.cols ∙ ap (λ g. g.cols) (c.deref.ensures ∙ c.graph.ensures.graph)) c.in_ok-columns.columns
      c.in_ok-columns.ensures.made c.row_map.result.now.value c.row_map.ensures.rows c.in_ok-rows.rows
      (c.in_ok-rows.ensures.plan files me given share pieces c.args.fill can (c.row_map.ensures.rows ∙ is.rows));
}
