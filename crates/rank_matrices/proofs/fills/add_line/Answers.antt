use Rattle.std.proofs.Common.{◌≡◌, true, false, to_z, of_z, subst, sym, ap, ◌∙◌, rules}
use Rattle.std.specs.Int.{w128}
use Rattle.crs_graph.specs.Faults.{IsFillFault}
use Rattle.crs_matrix.specs.Rows.{row_table}
use Rattle.model_defs.specs.FileMatrix.{number_of}
use Rattle.rank_values.proofs.Globals.{none_stands}
use Rattle.rank_matrices.proofs.NamedRows.{line-added}
use Rattle.rank_matrices.proofs.fills.add_line.Goals as goal

pub unreachable-requires : goal.unreachable-requires
unreachable-requires g c =
    let rows = c.args.fill.now.rows in
    let row = c.args.line.now.row in
    let fault = subst (IsFillFault rows row) c.in-Err-NoSuchRow.field-0-is c.in-Err-NoSuchRow.ensures.refused in
    let bad : true ≡ false = sym c.requires.row ∙ none_stands rows row fault.1 in
    cc

pub returns-in-Ok-clause-place : goal.returns-in-Ok-clause-place
returns-in-Ok-clause-place g c =
    let R = g.S.Scalar.semiring in
    let F = g.S.Scalar.conversions in
    let l = c.args.line.now in
    let whole : to_z w128 (of_z w128 l.value) ≡ l.value = search rules in
    λ lines is. line-added R F g.met.S.Scalar.laws (row_table c.args.fill.now) (row_table c.insert.new.self) lines l c.number_of.result
    (c.number_of.ensures.number ∙ ap (number_of R F) whole) c.in-Ok.ensures.place is
