use Rattle.std.proofs.Common.{refl, ap, ◌∙◌}
use Rattle.map_core.specs.Plans.{reversed}
use Rattle.rank_makings.proofs.ApplySums.{sums-begun, sums-have-rows, sums-may-arrive}
use Rattle.rank_makings.proofs.applying.begin_sums.Goals as goal

pub plan_of-requires : goal.plan_of-requires
plan_of-requires g c = record { split = sums-have-rows c.requires.sums.1.1.1.1.1 }

pub begin-requires : goal.begin-requires
begin-requires g c =
    let may = sums-may-arrive c.requires.sums.1.1.1.1.1 c.plan_of.result.now c.reverse.result c.plan_of.ensures.columns c.plan_of.ensures.rows
    (c.reverse.ensures.reversed ∙ ap reversed c.in_ok-plan.ensures.same) c.in_ok-sums.sums c.in_ok-zeros.zeros c.in_ok-sums.ensures.map c.in_ok-sums.ensures.columns
    c.in_ok-own.own.value c.in_ok-own.ensures.list c.in_ok-zeros.ensures.map c.columns.result c.columns.ensures.columns c.in_ok-zeros.ensures.columns in
    record {
      columns = may.columns;
      some_column = may.some_column;
      columns_limit = may.few_columns;
      few_rows = may.few_rows;
      own = may.own;
      targets = may.targets;
    }

pub returns : goal.returns
returns g c = record {
  begun = λ files pieces given k stage is.
      let begun = c.in_ok-arriving.ensures in
      sums-begun is c.plan_of.result.now c.reverse.result c.plan_of.ensures.columns c.plan_of.ensures.rows
      (c.reverse.ensures.reversed ∙ ap reversed c.in_ok-plan.ensures.same) c.in_ok-sums.sums c.in_ok-zeros.zeros c.in_ok-sums.ensures.map c.in_ok-sums.ensures.columns
      c.in_ok-own.own.value c.in_ok-own.ensures.list c.in_ok-zeros.ensures.map c.columns.result c.columns.ensures.columns c.in_ok-zeros.ensures.columns
      c.in_ok-sums.ensures.sums c.in_ok-zeros.ensures.cells _ refl begun.plan begun.mode begun.shape begun.rows;
}
