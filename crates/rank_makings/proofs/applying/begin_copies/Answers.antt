use Rattle.std.proofs.Common.{refl, ◌∙◌}
use Rattle.rank_makings.proofs.ApplyCells.{copies-begun, copies-have-rows, copies-may-arrive}
use Rattle.rank_makings.proofs.applying.begin_copies.Goals as goal

pub plan_of-requires : goal.plan_of-requires
plan_of-requires g c = record { split = copies-have-rows c.requires.copies.1.1.1.1.1.1.1 }

pub begin-requires : goal.begin-requires
begin-requires g c =
    let may = copies-may-arrive c.requires.copies.1.1.1.1.1.1.1 c.plan_of.result.now c.in_ok-plan.plan c.plan_of.ensures.columns c.plan_of.ensures.rows
    c.in_ok-plan.ensures.same c.in_ok-zeros.zeros c.in_ok-list.list.value (c.in_ok-list.ensures.cases ∙ c.list_of.ensures.list) c.in_ok-zeros.ensures.map c.columns.result c.columns.ensures.columns
    c.in_ok-zeros.ensures.columns in
    record {
      columns = may.columns;
      some_column = may.some_column;
      columns_limit = may.few_columns;
      few_rows = may.few_rows;
      own = may.own;
      targets = may.targets;
    }

pub returns : goal.returns
returns g c = record {
  begun = λ job files me pieces given k stage is.
      let begun = c.in_ok-arriving.ensures in
      copies-begun is c.plan_of.result.now c.in_ok-plan.plan c.plan_of.ensures.columns c.plan_of.ensures.rows
      c.in_ok-plan.ensures.same c.in_ok-zeros.zeros c.in_ok-list.list.value (c.in_ok-list.ensures.cases ∙ c.list_of.ensures.list) c.in_ok-zeros.ensures.map c.columns.result c.columns.ensures.columns
      c.in_ok-zeros.ensures.columns c.in_ok-zeros.ensures.cells _ refl begun.plan begun.mode begun.shape begun.rows;
}
