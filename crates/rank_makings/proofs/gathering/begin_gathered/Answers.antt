use Rattle.std.proofs.Common.{refl}
use Rattle.rank_makings.proofs.GatheredRows.{base-there, gathered-begun, gathered-moves, gathered-targets, has-row-plan, rows-mapped, shape-there, split-there}
use Rattle.rank_makings.proofs.gathering.begin_gathered.Goals as goal

pub matrix_at-m-requires : goal.matrix_at-m-requires
matrix_at-m-requires g c = record { matrix = split-there c.requires.can.1.1 c.requires.kind (c.assembly_of-said.ensures.said c.requires.kind) }

pub plan_of-requires : goal.plan_of-requires
plan_of-requires g c = record { split = λ e. has-row-plan c.requires.can.1.1 c.requires.kind (c.assembly_of-said.ensures.said c.requires.kind) c.matrix_at-m.ensures.at }

pub bounds-shapes-k : goal.bounds-shapes-k
bounds-shapes-k g c = shape-there c.requires.can.1.1

pub base_fill-requires-clause-known : goal.base_fill-requires-clause-known
base_fill-requires-clause-known g c = rows-mapped c.requires.can.1.1 _

pub base_fill-requires-clause-base : goal.base_fill-requires-clause-base
base_fill-requires-clause-base g c = base-there c.requires.can.1.1 c.requires.kind (c.assembly_of-said.ensures.said c.requires.kind) _

pub begin-requires-clause-own : goal.begin-requires-clause-own
begin-requires-clause-own g c =
    gathered-moves c.requires.can.1.1 c.requires.kind (c.assembly_of-said.ensures.said c.requires.kind) c.matrix_at-m.ensures.at c.matrix_is_source.ensures.same (c.plan_of.ensures.rows refl)
    c.in_ok-plan.ensures.same c.reverse.ensures.reversed _ c.in_ok-base.base c.in_ok-base.ensures.rows

pub begin-requires-clause-targets : goal.begin-requires-clause-targets
begin-requires-clause-targets g c =
    gathered-targets c.requires.can.1.1 c.requires.kind (c.assembly_of-said.ensures.said c.requires.kind) c.matrix_at-m.ensures.at c.matrix_is_source.ensures.same (c.plan_of.ensures.rows refl)
    c.in_ok-plan.ensures.same c.reverse.ensures.reversed _ c.in_ok-base.base c.in_ok-base.ensures.rows

pub returns : goal.returns
returns g c = record {
  begun = λ files given can.
      let begun = c.in_ok-arriving.ensures in
      gathered-begun can c.requires.kind (c.assembly_of-said.ensures.said c.requires.kind) c.matrix_at-m.ensures.at c.matrix_is_source.ensures.same (c.plan_of.ensures.rows refl)
      c.in_ok-plan.ensures.same c.reverse.ensures.reversed _ c.in_ok-base.base c.in_ok-base.ensures.rows c.in_ok-base.ensures.none c.in_ok-base.ensures.some c.matrix_is_source.ensures.table _ refl
      begun.plan begun.mode begun.rows begun.table;
}
