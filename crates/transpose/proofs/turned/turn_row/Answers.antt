use Rattle.std.proofs.Common.{get_or, length, refl, ap, ◌∙◌, arith}
use Rattle.std.proofs.lemmas.Bool.{lt-ltb}
use Rattle.std.proofs.lemmas.List.{take_all}
use Rattle.map_core.specs.Layouts.{local_index}
use Rattle.crs_graph.proofs.Ascending.{stands-at, AreDistinct-ascending}
use Rattle.crs_graph.proofs.LocalColumns.{below-stands}
use Rattle.crs_matrix.specs.Matrices.{number_at_place}
use Rattle.crs_matrix.specs.Rows.{local_table}
use Rattle.transpose.specs.Columns.{with_column}
use Rattle.transpose.proofs.Transposed.{column-done, column-more, only_at, place-number}
use Rattle.transpose.proofs.turned.turn_row.Goals as goal

pub combine-requires : goal.combine-requires
combine-requires g c =
    let columns = c.args.columns.now in
    let col = get_or columns c.loop-at.at 0 in
    let low = below-stands (length c.args.target.now.rows) columns col c.requires.within (stands-at columns col c.loop-at.at c.loop-at-test.true refl) in
    let same = ap length c.loop-at.invariant.rows in
    record { taken = lt-ltb col (length c.loop-at.target.rows) (omega arith) }

pub loop-at-preserved : goal.loop-at-preserved
loop-at-preserved g c =
    let columns = c.args.columns.now in
    let numbers = c.args.numbers.now in
    let at = c.loop-at.at in
    let n = c.index-numbers-at.result in
    record {
      rows = c.in_ok-combine.ensures.shape ∙ c.loop-at.invariant.rows;
      column = column-more g.S.Scalar.semiring g.met.S.Scalar.laws (local_table c.args.target.now) c.args.gid (λ i. number_at_place numbers (local_index columns i))
          columns at (get_or columns at 0) n (local_table c.loop-at.target) (local_table c.combine.new.self) (AreDistinct-ascending columns c.requires.ascend) c.loop-at-test.true refl
          (place-number columns numbers at n c.requires.ascend c.loop-at-test.true c.requires.as_many c.index-numbers-at.is)
          c.loop-at.invariant.column c.in_ok-combine.ensures.cell;
    }

pub returns-clause-column : goal.returns-clause-column
returns-clause-column g c =
    let R = g.S.Scalar.semiring in
    let columns = c.args.columns.now in
    let numbers = c.args.numbers.now in
    let before = local_table c.args.target.now in
    let all = take_all c.loop-at.at columns (let past = c.loop-at-test.false in omega arith) in
    column-done R g.met.S.Scalar.laws before c.args.gid columns numbers (local_table c.loop-at.target)
    (c.loop-at.invariant.column ∙ ap (λ cs. with_column R before c.args.gid (only_at (λ i. number_at_place numbers (local_index columns i)) cs)) all)
