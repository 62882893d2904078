use Rattle.std.proofs.Common.{refl}
use Rattle.rank_makings.proofs.GatheredRows.{rows-mapped, shape-there, transposed-begun, transposed-moves, transposed-targets, transposed-there}
use Rattle.rank_makings.proofs.gathering.begin_transposed.Goals as goal

pub matrix_at-m-requires : goal.matrix_at-m-requires
matrix_at-m-requires g c = record { matrix = transposed-there c.requires.can.1.1 c.requires.kind (c.transposed_of.ensures.matrix c.requires.kind) }

pub bounds-shapes-k : goal.bounds-shapes-k
bounds-shapes-k g c = shape-there c.requires.can.1.1

pub own_map-requires-clause-known : goal.own_map-requires-clause-known
own_map-requires-clause-known g c = rows-mapped c.requires.can.1.1 _

pub begin-requires-clause-own : goal.begin-requires-clause-own
begin-requires-clause-own g c =
    transposed-moves c.requires.can.1.1 c.requires.kind (c.transposed_of.ensures.matrix c.requires.kind) c.matrix_at-m.ensures.at c.in_ok-turned.ensures.rows c.fill_is_source.ensures.same
    c.in_ok-plan.ensures.same c.reverse.ensures.reversed _ c.in_ok-rows.ensures.list c.in_ok-empty.ensures.empty

pub begin-requires-clause-targets : goal.begin-requires-clause-targets
begin-requires-clause-targets g c =
    transposed-targets c.requires.can.1.1 c.requires.kind (c.transposed_of.ensures.matrix c.requires.kind) c.matrix_at-m.ensures.at c.in_ok-turned.ensures.rows c.fill_is_source.ensures.same
    c.in_ok-plan.ensures.same c.reverse.ensures.reversed _ c.in_ok-rows.ensures.list c.in_ok-empty.ensures.empty

pub returns : goal.returns
returns g c = record {
  begun = λ files given can.
      let begun = c.in_ok-arriving.ensures in
      transposed-begun can c.requires.kind (c.transposed_of.ensures.matrix c.requires.kind) c.matrix_at-m.ensures.at c.in_ok-turned.ensures.rows c.fill_is_source.ensures.same
      c.in_ok-plan.ensures.same c.reverse.ensures.reversed _ c.in_ok-rows.ensures.list c.in_ok-empty.ensures.empty c.in_ok-turned.ensures.transpose _ refl
      begun.plan begun.mode begun.rows begun.table;
}
