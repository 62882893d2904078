use Rattle.std.proofs.Common.{◌≡◌, None, Some, inl, inr, sym, ap, ◌∙◌}
use Rattle.std.proofs.lemmas.Option.{same_Some}
use Rattle.model_defs.specs.declared.phase.Plan.TheVariants.{ColumnPlan, RowPlan}
use Rattle.model_defs.specs.Plans.{rank_list_by}
use Rattle.rank_core.specs.declared.makings.Making.TheVariants.{Filled}
use Rattle.rank_core.proofs.Clauses.{if-both, if-ok}
use Rattle.rank_core.proofs.lists.plan_list.Goals as goal

pub row_list-requires-clause-known : goal.row_list-requires-clause-known
row_list-requires-clause-known g c = λ none.
    elim (c.requires.can.1.known (RowPlan c.in-Some-RowPlan.value) (sym c.in-Some-RowPlan.ensures.plan ∙ ap (λ p. Some p) c.in-Some-RowPlan.field-0-is)) [
      | inl f ↦ let bad : None ≡ Some (Filled f.0) = sym none ∙ f.1 in absurd (cc)
      | inr d ↦ d.1
    ]

pub row_list-requires-clause-matrix : goal.row_list-requires-clause-matrix
row_list-requires-clause-matrix g c = λ none.
    elim (c.requires.can.1.known (RowPlan c.in-Some-RowPlan.value) (sym c.in-Some-RowPlan.ensures.plan ∙ ap (λ p. Some p) c.in-Some-RowPlan.field-0-is)) [
      | inl f ↦ let bad : None ≡ Some (Filled f.0) = sym none ∙ f.1 in absurd (cc)
      | inr d ↦ d.2
    ]

pub returns-in-Some-ColumnPlan : goal.returns-in-Some-ColumnPlan
returns-in-Some-ColumnPlan g c = record {
  list = if-ok c.column_list.result c.column_list.ensures.filled (λ list filled files plan can about structure.
      let here = c.in-Some-ColumnPlan.ensures.plan in
      let is = c.in-Some-ColumnPlan.field-0-is in
      let one : ColumnPlan c.in-Some-ColumnPlan.field-0-0 ≡ plan = sym is ∙ same_Some c.in-Some-ColumnPlan.field-0 plan (here ∙ about) in
      let known = can.known (ColumnPlan c.in-Some-ColumnPlan.field-0-0) (sym here ∙ ap (λ p. Some p) is) in
      let columns = filled known.0 known.1 in columns.1 ∙ known.2 columns.0 ∙ ap (λ p. rank_list_by c.args.job.now files p c.args.me) one);
}

pub returns-in-Some-RowPlan : goal.returns-in-Some-RowPlan
returns-in-Some-RowPlan g c = record {
  list = if-both c.row_list.result c.row_list.ensures.filled c.row_list.ensures.dealt (λ list filled dealt files plan can about structure.
      let here = c.in-Some-RowPlan.ensures.plan in
      let is = c.in-Some-RowPlan.field-0-is in
      let one : RowPlan c.in-Some-RowPlan.value ≡ plan = sym is ∙ same_Some c.in-Some-RowPlan.field-0 plan (here ∙ about) in
      elim (can.known (RowPlan c.in-Some-RowPlan.value) (sym here ∙ ap (λ p. Some p) is)) [
        | inl f ↦ filled f.0 f.1 ∙ f.2 ∙ ap (λ p. rank_list_by c.args.job.now files p c.args.me) one
        | inr d ↦ dealt d.0 files can.input ∙ ap (λ p. rank_list_by c.args.job.now files p c.args.me) one
      ]);
}
