use Rattle.std.proofs.Common.{◌≡◌, Some, sym, ap, ◌∙◌, subst}
use Rattle.std.proofs.lemmas.Option.{same_Some}
use Rattle.multivector.specs.Vectors.{VectorState}
use Rattle.rank_pieces.specs.declared.pieces.Piece.TheVariants.{Matrix}
use Rattle.rank_pieces.specs.Pieces.{IsOwnPiece}
use Rattle.rank_makings.specs.declared.coming.Came.{Came}
use Rattle.rank_makings.specs.declared.coming.Came.TheVariants as came
use Rattle.rank_makings.specs.Beginnings.{CanFinish}
use Rattle.rank_core.specs.declared.makings.Making.TheVariants.{Arriving, Filled}
use Rattle.rank_core.specs.Leaving.{CanLeave}
use Rattle.rank_core.proofs.next.finished_value.Goals as goal

-- the vector that came
abbrev cells-or : {S : Type 0} → VectorState S → Came S → VectorState S
cells-or d (came.Cells v) = v
cells-or d (came.Rows fill) = d

pub returns-in_ok-finished_cells-in-Cells-clause-made : goal.returns-in_ok-finished_cells-in-Cells-clause-made
returns-in_ok-finished_cells-in-Cells-clause-made g c = λ p same files given share can.
    let R = g.S.Scalar.semiring in
    let F = g.S.Scalar.conversions in
    let job = c.args.job.now in
    let is : c.args.making ≡ Some (Arriving c.in-Some-Arriving.coming) = c.in-Some-Arriving.is ∙ ap (λ m. Some m) c.in-Some-Arriving.field-0-is in
    let left = subst (CanLeave R F job files c.args.me share c.args.shapes.now c.args.pieces.now given c.args.book.now c.args.k) is can in
    let one : left.0 ≡ c.in-Cells.vector = ap (cells-or c.in-Cells.vector) (sym left.1 ∙ sym c.in-Cells.ensures.came) in
    subst (IsOwnPiece R F job files c.args.me given c.args.k) (same_Some c.in_ok-finished_cells-in-Cells.field-0 p same)
    (c.in_ok-finished_cells-in-Cells.ensures.piece files given share
    (subst (CanFinish R F job files c.args.me share c.args.shapes.now c.args.pieces.now given c.args.k) one left.2))

pub returns-in_ok-completed_matrix-in-Some-Filled-clause-made : goal.returns-in_ok-completed_matrix-in-Some-Filled-clause-made
returns-in_ok-completed_matrix-in-Some-Filled-clause-made g c = λ p same files given share can.
    let R = g.S.Scalar.semiring in
    let F = g.S.Scalar.conversions in
    let job = c.args.job.now in
    let is : c.args.making ≡ Some (Filled c.in-Some-Filled.fill) = c.in-Some-Filled.is ∙ ap (λ m. Some m) c.in-Some-Filled.field-0-is in
    subst (IsOwnPiece R F job files c.args.me given c.args.k) (same_Some (Matrix c.in_ok-completed_matrix-in-Some-Filled.field-0) p same)
    (c.in_ok-completed_matrix-in-Some-Filled.ensures.piece files c.args.me given share c.args.pieces.now
    (subst (CanLeave R F job files c.args.me share c.args.shapes.now c.args.pieces.now given c.args.book.now c.args.k) is can))
