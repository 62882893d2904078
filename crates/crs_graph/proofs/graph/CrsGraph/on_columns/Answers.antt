use Rattle.std.proofs.Common.{◌^◌, sym, ◌∙◌}
use Rattle.std.specs.Rc.{rc_slice_items}
use Rattle.map_core.specs.Classes.{places}
use Rattle.crs_graph.proofs.Compressed.{came_each, came_packed, is_kept, ordered_same, sorted_same, stored_few, stored_packed, stored_rows, stored_sorted, AreRows}
use Rattle.crs_graph.proofs.graph.CrsGraph.on_columns.Goals as goal

pub sorted_rows-requires-clause-packed : goal.sorted_rows-requires-clause-packed
sorted_rows-requires-clause-packed c =
    let cols = c.args.cols.value in
    let kept : AreRows cols c.args.columns = record { distinct = c.requires.distinct; ascend = c.requires.ascend; known = c.requires.known } in
    let parts = c.into_parts-offsets.ensures in
    let found = c.in_ok-locals.ensures.places ∙ (λ t. places (c.deref.ensures t) (c.deref-2.ensures.value t)) in
    came_packed cols c.args.columns kept c.deref-3.result.now _ c.deref-4.result.now (c.deref-3.ensures.value ∙ parts.offsets) parts.all (c.deref-4.ensures.value ∙ found)

pub sorted_rows-requires-clause-distinct : goal.sorted_rows-requires-clause-distinct
sorted_rows-requires-clause-distinct c =
    let cols = c.args.cols.value in
    let kept : AreRows cols c.args.columns = record { distinct = c.requires.distinct; ascend = c.requires.ascend; known = c.requires.known } in
    let parts = c.into_parts-offsets.ensures in
    let found = c.in_ok-locals.ensures.places ∙ (λ t. places (c.deref.ensures t) (c.deref-2.ensures.value t)) in
    came_each cols c.args.columns kept c.deref-3.result.now _ c.deref-4.result.now (c.deref-3.ensures.value ∙ parts.offsets) parts.all (c.deref-4.ensures.value ∙ found)

pub orders_of-requires-clause-packed : goal.orders_of-requires-clause-packed
orders_of-requires-clause-packed c =
    let cols = c.args.cols.value in
    let kept : AreRows cols c.args.columns = record { distinct = c.requires.distinct; ascend = c.requires.ascend; known = c.requires.known } in
    let parts = c.into_parts-offsets.ensures in
    let found = c.in_ok-locals.ensures.places ∙ (λ t. places (c.deref.ensures t) (c.deref-2.ensures.value t)) in
    came_packed cols c.args.columns kept c.deref-5.result.now _ c.deref-7.result.now (c.deref-5.ensures.value ∙ parts.offsets) parts.all (c.deref-7.ensures.value ∙ found)

pub orders_of-requires-clause-packed_columns : goal.orders_of-requires-clause-packed_columns
orders_of-requires-clause-packed_columns c =
    let cols = c.args.cols.value in
    let kept : AreRows cols c.args.columns = record { distinct = c.requires.distinct; ascend = c.requires.ascend; known = c.requires.known } in
    let parts = c.into_parts-offsets.ensures in
    let found = c.in_ok-locals.ensures.places ∙ (λ t. places (c.deref.ensures t) (c.deref-2.ensures.value t)) in
    let columns = c.deref-6.ensures.value ∙ c.in_ok-columns.ensures.rows ∙ sorted_same (c.deref-3.ensures.value ∙ sym c.deref-5.ensures.value) (c.deref-4.ensures.value ∙ sym c.deref-7.ensures.value) in
    stored_packed cols c.args.columns kept c.deref-5.result.now _ c.deref-7.result.now (c.deref-5.ensures.value ∙ parts.offsets) parts.all (c.deref-7.ensures.value ∙ found) c.deref-6.result.now columns

pub orders_of-requires-clause-sorted : goal.orders_of-requires-clause-sorted
orders_of-requires-clause-sorted c =
    let cols = c.args.cols.value in
    let kept : AreRows cols c.args.columns = record { distinct = c.requires.distinct; ascend = c.requires.ascend; known = c.requires.known } in
    let parts = c.into_parts-offsets.ensures in
    let found = c.in_ok-locals.ensures.places ∙ (λ t. places (c.deref.ensures t) (c.deref-2.ensures.value t)) in
    let columns = c.deref-6.ensures.value ∙ c.in_ok-columns.ensures.rows ∙ sorted_same (c.deref-3.ensures.value ∙ sym c.deref-5.ensures.value) (c.deref-4.ensures.value ∙ sym c.deref-7.ensures.value) in
    stored_sorted cols c.args.columns kept c.deref-5.result.now _ c.deref-7.result.now (c.deref-5.ensures.value ∙ parts.offsets) parts.all (c.deref-7.ensures.value ∙ found) c.deref-6.result.now columns

pub orders_of-requires-clause-few : goal.orders_of-requires-clause-few
orders_of-requires-clause-few c =
    let cols = c.args.cols.value in
    let kept : AreRows cols c.args.columns = record { distinct = c.requires.distinct; ascend = c.requires.ascend; known = c.requires.known } in
    let parts = c.into_parts-offsets.ensures in
    let found = c.in_ok-locals.ensures.places ∙ (λ t. places (c.deref.ensures t) (c.deref-2.ensures.value t)) in
    let columns = c.deref-6.ensures.value ∙ c.in_ok-columns.ensures.rows ∙ sorted_same (c.deref-3.ensures.value ∙ sym c.deref-5.ensures.value) (c.deref-4.ensures.value ∙ sym c.deref-7.ensures.value) in
    stored_few cols c.args.columns kept c.deref-5.result.now _ c.deref-7.result.now (c.deref-5.ensures.value ∙ parts.offsets) parts.all (c.deref-7.ensures.value ∙ found) c.deref-6.result.now columns (2 ^ 32) c.requires.few

pub invariant_of-graph : goal.invariant_of-graph
invariant_of-graph c =
    let cols = c.args.cols.value in
    let kept : AreRows cols c.args.columns = record { distinct = c.requires.distinct; ascend = c.requires.ascend; known = c.requires.known } in
    let parts = c.into_parts-offsets.ensures in
    let found = c.in_ok-locals.ensures.places ∙ (λ t. places (c.deref.ensures t) (c.deref-2.ensures.value t)) in
    let os = c.in_ok-from_vec.ensures in
    let columns = c.in_ok-from_vec-2.ensures ∙ c.in_ok-columns.ensures.rows ∙ sorted_same (c.deref-3.ensures.value ∙ sym os) c.deref-4.ensures.value in
    let order = c.in_ok-from_vec-3.ensures ∙ c.in_ok-order.ensures.orders ∙ ordered_same (c.deref-5.ensures.value ∙ sym os) c.deref-7.ensures.value in
    is_kept cols c.args.columns kept (rc_slice_items c.in_ok-from_vec.field-0) _ c.in_ok-locals.locals.items (os ∙ parts.offsets) parts.all found
    (rc_slice_items c.in_ok-from_vec-2.field-0) columns (rc_slice_items c.in_ok-from_vec-3.field-0) order c.args.rows.value c.requires.each_row

pub returns : goal.returns
returns c =
    let cols = c.args.cols.value in
    let kept : AreRows cols c.args.columns = record { distinct = c.requires.distinct; ascend = c.requires.ascend; known = c.requires.known } in
    let parts = c.into_parts-offsets.ensures in
    let found = c.in_ok-locals.ensures.places ∙ (λ t. places (c.deref.ensures t) (c.deref-2.ensures.value t)) in
    let os = c.in_ok-from_vec.ensures in
    let columns = c.in_ok-from_vec-2.ensures ∙ c.in_ok-columns.ensures.rows ∙ sorted_same (c.deref-3.ensures.value ∙ sym os) c.deref-4.ensures.value in
    let rows = stored_rows cols c.args.columns kept (rc_slice_items c.in_ok-from_vec.field-0) _ c.in_ok-locals.locals.items (os ∙ parts.offsets) parts.all found (rc_slice_items c.in_ok-from_vec-2.field-0) columns in
    record { graph = c.in_ok-new.ensures.ok ∙ (λ t. record { rows = c.args.rows.value; cols = cols; columns = rows t }) }
