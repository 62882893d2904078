use Rattle.std.proofs.Common.{slice_set, subst, sym, ap, ◌∙◌}
use Rattle.map_core.specs.Layouts.{local_index}
use Rattle.crs_graph.specs.Ascending.{with_index, IsAscending}
use Rattle.crs_graph.specs.Fills.{columns_of, with_local, with_place, IsFill}
use Rattle.crs_graph.proofs.Ascending.{ascending-with_index}
use Rattle.crs_graph.proofs.Fills.{columns_of-same, columns_of-set, on_err, row_at, row_within, IsFill-set}
use Rattle.crs_graph.proofs.fill.GraphFill.insert.Goals as goal

pub insert_column-requires : goal.insert_column-requires
insert_column-requires c =
    let vs = c.self.inside.columns.items in
    let within = row_within c.self.inside.rows.value c.deref.result.now vs c.in-Some.lid c.in-Some.ensures.within c.deref.ensures c.self.invariant.rows in
    record { ascending = subst IsAscending (row_at vs c.in-Some.lid c.index_mut.result.now within ∙ ap (λ v. v.items) (sym c.index_mut.ensures.value)) (c.self.invariant.ascend c.in-Some.lid) }

pub invariant_of-self : goal.invariant_of-self
invariant_of-self c =
    let vs = c.self.inside.columns.items in
    let within = row_within c.self.inside.rows.value c.deref.result.now vs c.in-Some.lid c.in-Some.ensures.within c.deref.ensures c.self.invariant.rows in
    subst (λ ls. IsFill (record { rows = c.self.inside.rows.value; columns = ls }))
    (sym (columns_of-same vs c.in-Some.lid c.index_mut.result.now c.insert_column.new.columns within (c.in_err-is_new.ensures.unchanged ∙ ap (λ v. v.items) c.index_mut.ensures.value)))
    c.self.invariant

pub returns-in_err-is_new-clause-unchanged : goal.returns-in_err-is_new-clause-unchanged
returns-in_err-is_new-clause-unchanged c =
    let vs = c.self.inside.columns.items in
    let within = row_within c.self.inside.rows.value c.deref.result.now vs c.in-Some.lid c.in-Some.ensures.within c.deref.ensures c.self.invariant.rows in
    let same = columns_of-same vs c.in-Some.lid c.index_mut.result.now c.insert_column.new.columns within (c.in_err-is_new.ensures.unchanged ∙ ap (λ v. v.items) c.index_mut.ensures.value) in
    on_err c.from_residual.result _ ((λ t. record { rows = c.self.inside.rows.value; columns = same t }) ∙ c.self.view_is)

pub invariant_of-self-2 : goal.invariant_of-self-2
invariant_of-self-2 c =
    let vs = c.self.inside.columns.items in
    let within = row_within c.self.inside.rows.value c.deref.result.now vs c.in-Some.lid c.in-Some.ensures.within c.deref.ensures c.self.invariant.rows in
    let up = subst IsAscending (row_at vs c.in-Some.lid c.index_mut.result.now within ∙ ap (λ v. v.items) (sym c.index_mut.ensures.value)) (c.self.invariant.ascend c.in-Some.lid) in
    subst (λ ls. IsFill (record { rows = c.self.inside.rows.value; columns = ls })) (sym (columns_of-set vs c.in-Some.lid c.insert_column.new.columns))
    (IsFill-set (record { rows = c.self.inside.rows.value; columns = columns_of vs }) c.in-Some.lid c.insert_column.new.columns.items c.self.invariant
    (subst IsAscending (sym c.in_ok-is_new.ensures.columns) (ascending-with_index c.index_mut.result.now.items up c.args.col)))

pub returns-clause-place : goal.returns-clause-place
returns-clause-place c =
    let vs = c.self.inside.columns.items in
    let rows = c.self.inside.rows.value in
    let lid = c.in-Some.lid in
    let within = row_within rows c.deref.result.now vs lid c.in-Some.ensures.within c.deref.ensures c.self.invariant.rows in
    let new_row = c.in_ok-is_new.ensures.columns ∙ ap (λ xs. with_index xs c.args.col) (ap (λ v. v.items) c.index_mut.ensures.value ∙ sym (row_at vs lid c.index_mut.result.now within)) in
    let new_columns = columns_of-set vs lid c.insert_column.new.columns ∙ ap (slice_set (columns_of vs) lid) new_row in
    (λ t. record { rows = rows; columns = new_columns t })
    ∙ ap (λ o. with_local (record { rows = rows; columns = columns_of vs }) o c.args.col) (c.in-Some.ensures.place ∙ ap (λ xs. local_index xs c.args.row) c.deref.ensures)
    ∙ ap (λ f. with_place f c.args.row c.args.col) c.self.view_is
