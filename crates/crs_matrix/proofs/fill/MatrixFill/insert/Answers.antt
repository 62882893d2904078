use Rattle.std.proofs.Common.{sym, ap, ◌∙◌}
use Rattle.map_core.specs.Layouts.{local_index}
use Rattle.crs_matrix.specs.Rows.{RowCells}
use Rattle.crs_matrix.proofs.Clauses.{insert-clause}
use Rattle.crs_matrix.proofs.fill.MatrixFill.insert.Goals as goal

pub returns-clause-place : goal.returns-clause-place
returns-clause-place g c =
    insert-clause g.S.Scalar.semiring g.met.S.Scalar.laws c.args.self.now c.put.new.self c.args.row c.in-Some.lid c.args.col c.args.value
    (ap (λ (n : RowCells g.row.S.Denot). local_index n.rows c.args.row) (sym c.self.view_is) ∙ ap (λ xs. local_index xs c.args.row) (sym c.deref.ensures) ∙ sym c.in-Some.ensures.place)
    c.in_ok-put.ensures.rows c.in_ok-put.ensures.place
