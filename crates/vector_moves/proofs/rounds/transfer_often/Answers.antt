use Rattle.std.proofs.Common.{◌∙◌, ap, true, replicate}
use Rattle.map_core.specs.Classes.{indices_at}
use Rattle.map_core.specs.Plans.{export_list}
use Rattle.vector_moves.specs.Rows.{by_index, rows_of}
use Rattle.vector_moves.proofs.Came.{one-more}
use Rattle.vector_moves.proofs.rounds.transfer_often.Goals as goal

pub loop-preserved : goal.loop-preserved
loop-preserved g c =
    record {
      same_map = c.in_ok-transfer.ensures.shape.0 ∙ c.loop.invariant.same_map;
      same_columns = c.in_ok-transfer.ensures.shape.1 ∙ c.loop.invariant.same_columns;
      pool = c.in_ok-transfer.ensures.pool ∙ c.loop.invariant.pool;
      rows = one-more g.S.Scalar.semiring c.args.mode (by_index c.args.y.now) (by_index c.loop.y) (by_index c.transfer.new.y)
          (rows_of c.args.x.now (indices_at c.args.x.now.map (export_list c.args.sender.now.plan c.args.to))) c.loop.counter c.loop.invariant.rows c.in_ok-transfer.ensures.rows;
    }
