use Rattle.std.proofs.Common.{Some, cond, length, get_or, refl, sym, ap, ◌∙◌, arith}
use Rattle.std.proofs.lemmas.List.{take_all}
use Rattle.tables.specs.Sums.{both_or_one}
use Rattle.map_core.specs.Layouts.{local_index, stands}
use Rattle.crs_graph.proofs.Ascending.{AreDistinct-ascending}
use Rattle.crs_matrix.specs.Matrices.{number_at_place}
use Rattle.model_defs.specs.Operations.{times_there}
use Rattle.multivector.specs.Vectors.{vector_table}
use Rattle.spmv.proofs.Rows.{below-at, row-number}
use Rattle.spmv.proofs.Spread.{spread-done, spread-more}
use Rattle.spmv.proofs.transposed.spread_row.Goals as goal

pub spread_place-requires-clause-there : goal.spread_place-requires-clause-there
spread_place-requires-clause-there g c =
    let low = below-at (length c.args.y.now.map) c.args.columns.now c.loop-at.at c.requires.within c.loop-at-test.true in
    let same = ap length c.loop-at.invariant.same_map in
    omega arith

pub loop-at-preserved : goal.loop-at-preserved
loop-at-preserved g c =
    let R = g.S.Scalar.semiring in
    let columns = c.args.columns.now in
    let numbers = c.args.numbers.now in
    let at = c.loop-at.at in
    let n = c.index-numbers-at.result in
    let number = row-number g.met.S.Scalar.laws columns numbers at n c.requires.ascend c.loop-at-test.true c.requires.as_many c.index-numbers-at.is in
    record {
      same_map = c.spread_place.ensures.same_map ∙ c.loop-at.invariant.same_map;
      same_columns = c.spread_place.ensures.same_columns ∙ c.loop-at.invariant.same_columns;
      done = spread-more g.met.S.Scalar.laws (vector_table c.loop-at.y) (vector_table c.spread_place.new.y) (vector_table c.args.y.now)
          (λ i k. times_there R (number_at_place numbers (local_index columns i)) (vector_table c.args.x.now c.args.lid k))
          (λ k. times_there R (Some n) (vector_table c.args.x.now c.args.lid k))
          columns at (get_or columns at 0) (AreDistinct-ascending columns c.requires.ascend) c.loop-at-test.true refl c.loop-at.invariant.done c.spread_place.ensures.entry
          (λ k. ap (λ o. times_there R o (vector_table c.args.x.now c.args.lid k)) (sym number));
    }

pub returns-clause-row : goal.returns-clause-row
returns-clause-row g c =
    let R = g.S.Scalar.semiring in
    let columns = c.args.columns.now in
    let numbers = c.args.numbers.now in
    let y = vector_table c.args.y.now in
    let x = vector_table c.args.x.now c.args.lid in
    let all = take_all c.loop-at.at columns (let past = c.loop-at-test.false in omega arith) in
    λ i k.
    c.loop-at.invariant.done i k
    ∙ ap (λ cs. cond (stands i cs) (both_or_one R.plus (y i k) (times_there R (number_at_place numbers (local_index columns i)) (x k))) (y i k)) all
    ∙ spread-done g.met.S.Scalar.laws columns numbers y x i k
