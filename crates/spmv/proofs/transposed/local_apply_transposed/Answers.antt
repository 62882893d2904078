use Rattle.std.proofs.Common.{◌≡◌, length, refl, sym, ap, ◌∙◌, arith}
use Rattle.tables.specs.Sums.{both_or_one, if_there, total_below}
use Rattle.map_core.specs.Layouts.{local_index}
use Rattle.crs_graph.specs.Graphs.{graph_row}
use Rattle.crs_matrix.specs.Matrices.{crs_local, number_at_place}
use Rattle.model_defs.specs.Operations.{times_there}
use Rattle.multivector.specs.Vectors.{vector_table}
use Rattle.spmv.proofs.Rows.{join_none}
use Rattle.spmv.proofs.Spread.{spread-rows}
use Rattle.spmv.proofs.transposed.local_apply_transposed.Goals as goal

pub loop-lid-init : goal.loop-lid-init
loop-lid-init g c = record { same_map = refl; same_columns = refl; done = λ i k. sym (join_none g.met.S.Scalar.laws (vector_table c.args.y.now i k)) }

pub loop-lid-preserved : goal.loop-lid-preserved
loop-lid-preserved g c =
    let R = g.S.Scalar.semiring in
    let a = c.args.a.now in
    let x = vector_table c.args.x.now in
    let lid = c.loop-lid.lid in
    let columns = c.row.ensures.columns ∙ ap (λ h. graph_row h lid) (c.deref-in-loop-lid.ensures ∙ c.graph-in-loop-lid.ensures.graph) in
    let numbers = c.row-in-loop-lid.ensures.numbers in
    record {
      same_map = c.spread_row.ensures.same_map ∙ c.loop-lid.invariant.same_map;
      same_columns = c.spread_row.ensures.same_columns ∙ c.loop-lid.invariant.same_columns;
      done = λ i k.
          spread-rows g.met.S.Scalar.laws (λ r. times_there R (crs_local a r i) (x r k)) lid (vector_table c.args.y.now i k) (vector_table c.loop-lid.y i k) (vector_table c.spread_row.new.y i k)
          (c.loop-lid.invariant.done i k)
          (c.spread_row.ensures.row i k ∙ (λ t. both_or_one R.plus (vector_table c.loop-lid.y i k) (times_there R (number_at_place (numbers t) (local_index (columns t) i)) (x lid k))));
    }

pub returns-clause-sum : goal.returns-clause-sum
returns-clause-sum g c =
    let R = g.S.Scalar.semiring in
    let a = c.args.a.now in
    let x = vector_table c.args.x.now in
    let rows = ap length (c.deref-2.ensures ∙ c.row_map.ensures.rows ∙ ap (λ h. h.rows) (c.deref.ensures ∙ c.graph.ensures.graph)) in
    let all = c.len-lid-end.ensures.len in
    let past = c.loop-lid-test.false in
    let within = c.loop-lid.auto.lid-end in
    let last : c.loop-lid.lid ≡ length a.graph.rows = omega arith in
    λ t i k.
    (c.loop-lid.invariant.done i k
    ∙ ap (λ n. both_or_one R.plus (vector_table c.args.y.now i k) (total_below (if_there R.plus) n (λ r. times_there R (crs_local a r i) (x r k)))) last) t
