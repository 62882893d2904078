use Rattle.std.proofs.Common.{◌≡◌, ℕ, ap, subst, ◌∙◌}
use Rattle.std.specs.Prelude.{IfOk}
use Rattle.map_core.specs.Plans.{PlanLists}
use Rattle.byte_pool.specs.Leases.{leases, with_lease}
use Rattle.crs_matrix.specs.Rows.{row_table}
use Rattle.matrix_moves.specs.Sources.{HasWidth, as_rows, rows_letter, rows_to}
use Rattle.matrix_moves.proofs.arriving_rows.ArrivingRows.pack.Goals as goal

pub returns-clause-letter : goal.returns-clause-letter
returns-clause-letter g c =
    let a = as_rows (g.A.DistSource.entries c.args.source.now) in
    let plan = ap (λ t. t.plan) c.self.invariant.transfer_is ∙ ap (λ s. s.plan) c.self.view_is in
    let P : PlanLists → Type 0 = λ p. IfOk c.pack.result (λ lease. (width : ℕ) → HasWidth width (row_table a)
    → leases c.pack.new.pool ≡ with_lease (leases c.args.pool.now) lease (rows_letter g.S.Scalar.conversions width (row_table a) (rows_to p a.rows c.args.to))) in
    subst P plan c.pack.ensures.letter
