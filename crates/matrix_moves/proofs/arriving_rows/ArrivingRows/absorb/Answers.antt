use Rattle.std.proofs.Common.{◌≡◌, ap, subst}
use Rattle.std.specs.Prelude.{OnErr, OnOk}
use Rattle.tables.specs.Tables.{found}
use Rattle.map_core.specs.Plans.{PlanLists}
use Rattle.crs_matrix.specs.Rows.{row_table}
use Rattle.matrix_moves.specs.Arrivals.{ArrivingRowsState, IsPartGathered, IsPlacesLetter, after_table, cells_of_letter, rows_from}
use Rattle.matrix_moves.proofs.arriving_rows.ArrivingRows.absorb.Goals as goal

pub returns-clause-table : goal.returns-clause-table
returns-clause-table g c =
    let own = c.self.inside in
    let R = g.S.Scalar.semiring in
    let F = g.S.Scalar.conversions in
    let bytes = c.args.bytes.now in
    let new = c.absorb.new.target in
    let plan = ap (λ t. t.plan) c.self.invariant.transfer_is in
    let Q : PlanLists → Type 0 = λ p. (letter : IsPlacesLetter bytes (rows_from p own.fill.rows c.args.from))
    → OnOk c.absorb.result (row_table new ≡ after_table R own.mode (row_table own.fill) (found (cells_of_letter F bytes (rows_from p own.fill.rows c.args.from) letter))) in
    let P : ArrivingRowsState _ → Type 0 = λ a. (letter : IsPlacesLetter bytes (rows_from a.plan a.fill.rows c.args.from))
    → OnOk c.absorb.result (row_table new ≡ after_table R a.mode (row_table a.fill) (found (cells_of_letter F bytes (rows_from a.plan a.fill.rows c.args.from) letter))) in
    subst P c.self.view_is (subst Q plan c.absorb.ensures.table)

pub returns-clause-part : goal.returns-clause-part
returns-clause-part g c =
    let own = c.self.inside in
    let R = g.S.Scalar.semiring in
    let F = g.S.Scalar.conversions in
    let bytes = c.args.bytes.now in
    let new = c.absorb.new.target in
    let plan = ap (λ t. t.plan) c.self.invariant.transfer_is in
    let Q : PlanLists → Type 0 = λ p. (letter : IsPlacesLetter bytes (rows_from p own.fill.rows c.args.from))
    → OnErr c.absorb.result (IsPartGathered R own.mode (row_table own.fill) (cells_of_letter F bytes (rows_from p own.fill.rows c.args.from) letter) (row_table new)) in
    let P : ArrivingRowsState _ → Type 0 = λ a. (letter : IsPlacesLetter bytes (rows_from a.plan a.fill.rows c.args.from))
    → OnErr c.absorb.result (IsPartGathered R a.mode (row_table a.fill) (cells_of_letter F bytes (rows_from a.plan a.fill.rows c.args.from) letter) (row_table new)) in
    subst P c.self.view_is (subst Q plan c.absorb.ensures.part)
