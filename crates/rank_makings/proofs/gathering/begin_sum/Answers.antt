use Rattle.std.proofs.Common.{refl}
use Rattle.rank_makings.proofs.GatheredRows.{rows-mapped, shape-there, sum-begun, sum-moves, sum-plan-there, sum-targets, summand-there}
use Rattle.rank_makings.proofs.gathering.begin_sum.Goals as goal

pub matrix_at-b-requires : goal.matrix_at-b-requires
matrix_at-b-requires g c = record { matrix = summand-there c.requires.can.1.1 c.requires.kind (c.summands_of-from.ensures.said c.requires.kind) }

pub bounds-shapes-k : goal.bounds-shapes-k
bounds-shapes-k g c = shape-there c.requires.can.1.1

pub plan-requires : goal.plan-requires
plan-requires g c = record { made = sum-plan-there c.requires.can.1.1 c.requires.kind (c.summands_of-from.ensures.said c.requires.kind) c.rows_at.ensures.rows _ }

pub own_map-requires-clause-known : goal.own_map-requires-clause-known
own_map-requires-clause-known g c = rows-mapped c.requires.can.1.1 _

pub begin-requires-clause-own : goal.begin-requires-clause-own
begin-requires-clause-own g c =
    sum-moves c.requires.can.1.1 c.requires.kind (c.summands_of-from.ensures.said c.requires.kind) c.rows_at.ensures.rows _ c.matrix_at-b.ensures.at c.matrix_is_source.ensures.same c.plan.ensures.made c.in_ok-kept.ensures.same
    _ c.in_ok-rows.ensures.list c.in_ok-empty.ensures.empty

pub begin-requires-clause-targets : goal.begin-requires-clause-targets
begin-requires-clause-targets g c =
    sum-targets c.requires.can.1.1 c.requires.kind (c.summands_of-from.ensures.said c.requires.kind) c.rows_at.ensures.rows _ c.matrix_at-b.ensures.at c.matrix_is_source.ensures.same c.plan.ensures.made c.in_ok-kept.ensures.same
    _ c.in_ok-rows.ensures.list c.in_ok-empty.ensures.empty

pub returns : goal.returns
returns g c = record {
  begun = λ files given can.
      let begun = c.in_ok-arriving.ensures in
      sum-begun can c.requires.kind (c.summands_of-from.ensures.said c.requires.kind) c.rows_at.ensures.rows _ c.matrix_at-b.ensures.at c.matrix_is_source.ensures.same c.plan.ensures.made c.in_ok-kept.ensures.same
      _ c.in_ok-rows.ensures.list c.in_ok-empty.ensures.empty c.matrix_is_source.ensures.table _ refl
      begun.plan begun.mode begun.rows begun.table;
}
