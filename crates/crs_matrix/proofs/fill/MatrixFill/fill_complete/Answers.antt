use Rattle.std.proofs.Common.{◌<◌, ◌^◌, [], length, get_or, map, subst, sym, ap, ◌∙◌, arith}
use Rattle.std.specs.List.{concat}
use Rattle.map_core.specs.Classes.{index_at}
use Rattle.map_core.specs.Layouts.{stands}
use Rattle.crs_graph.specs.Ascending.{ascending, IsAscending}
use Rattle.crs_graph.specs.Graphs.{IsCompleted, IsGraph}
use Rattle.crs_graph.specs.Packed.{joined}
use Rattle.crs_matrix.specs.Completed.{stored_rows}
use Rattle.crs_matrix.specs.Matrices.{crs_table}
use Rattle.crs_matrix.specs.Rows.{all_columns, columns_in, row_table}
use Rattle.crs_matrix.specs.Stored.{cells_at, columns_at, places_of, stored, AreWithin}
use Rattle.crs_matrix.proofs.Clauses.{columns-kept}
use Rattle.crs_matrix.proofs.CompletedRows.{columns-places, stored-count, table-completed}
use Rattle.crs_matrix.proofs.Kept.{row-values, rows-are}
use Rattle.crs_matrix.proofs.fill.MatrixFill.fill_complete.Goals as goal

pub packed_columns-requires : goal.packed_columns-requires
packed_columns-requires g c = record { each = omega (arith, ap length c.in_ok-places.ensures.rows, ap length c.deref.ensures, c.self.invariant.each) }

pub from_rows-requires-clause-ascend : goal.from_rows-requires-clause-ascend
from_rows-requires-clause-ascend g c =
    let ps = places_of c.self.inside.places.items in
    let packed = c.in_ok-packed.ensures.rows ∙ ap (map columns_at) c.in_ok-places.ensures.rows in
    λ l. subst (λ rs. IsAscending (get_or rs l [])) (sym packed) (subst IsAscending (sym (columns-places ps l)) (c.self.invariant.ascend l))

pub from_rows-requires-clause-few : goal.from_rows-requires-clause-few
from_rows-requires-clause-few g c =
    let ps = places_of c.self.inside.places.items in
    let values = c.self.inside.values.items in
    let rows = c.self.inside.rows.value in
    let packed = c.in_ok-packed.ensures.rows ∙ ap (map columns_at) c.in_ok-places.ensures.rows in
    let all = ap (λ rs. ascending (concat rs)) (packed ∙ sym (columns-kept values ps (row-values rows ps (length values) c.self.invariant))) ∙ ap all_columns c.self.view_is in
    subst (λ xs. length xs < 2 ^ 32) (sym all) c.requires.few

pub from_rows-requires-clause-each : goal.from_rows-requires-clause-each
from_rows-requires-clause-each g c =
    let ps = places_of c.self.inside.places.items in
    let values = c.self.inside.values.items in
    let rows = c.self.inside.rows.value in
    let packed = c.in_ok-packed.ensures.rows ∙ ap (map columns_at) c.in_ok-places.ensures.rows in
    let all = ap (λ rs. ascending (concat rs)) (packed ∙ sym (columns-kept values ps (row-values rows ps (length values) c.self.invariant))) ∙ ap all_columns c.self.view_is in
    c.requires.each ∙ ap length (sym all)

pub stored_numbers-requires-clause-within : goal.stored_numbers-requires-clause-within
stored_numbers-requires-clause-within g c =
    let ps = places_of c.self.inside.places.items in
    let values = c.self.inside.values.items in
    λ l. subst (λ vs. AreWithin (length vs) (get_or c.in_ok-places.places l [])) (sym c.deref-3.ensures.value)
    (subst (λ rs. AreWithin (length values) (get_or rs l [])) (sym c.in_ok-places.ensures.rows) (row-values c.self.inside.rows.value ps (length values) c.self.invariant l))

pub stored_numbers-requires-clause-known : goal.stored_numbers-requires-clause-known
stored_numbers-requires-clause-known g c =
    let h = c.deref-2.result.now in
    let packed = c.in_ok-packed.ensures.rows in
    let made = subst (λ h. IsCompleted c.self.inside.rows.value c.in_ok-packed.packed c.args.domain.now c.args.owners.now h) (sym c.deref-2.ensures) c.in_ok-graph.ensures.graph in
    λ l k low. made.places l k low ∙ ap (λ rs. stands (index_at h.cols k) (get_or rs l [])) packed ∙ ap (stands (index_at h.cols k)) (columns-places c.in_ok-places.places l)

pub on_graph-requires : goal.on_graph-requires
on_graph-requires g c =
    let ps = places_of c.self.inside.places.items in
    let values = c.self.inside.values.items in
    let rows = c.self.inside.rows.value in
    let h = c.in_ok-graph.graph.value in
    let domain = c.args.domain.now in
    let owners = c.args.owners.now in
    let packed = c.in_ok-packed.ensures.rows ∙ ap (map columns_at) c.in_ok-places.ensures.rows in
    let columns = packed ∙ sym (columns-kept values ps (row-values rows ps (length values) c.self.invariant)) in
    let made = subst (λ rs. IsCompleted rows rs domain owners h) columns c.in_ok-graph.ensures.graph in
    let graph = subst IsGraph c.deref-2.ensures c.in_ok-values.ensures.is_graph in
    let each = (rows-are rows ps values c.self.invariant).each in
    let numbers = c.in_ok-values.ensures.numbers ∙ (λ t. joined (stored_rows (c.deref-2.ensures t).cols (c.deref-2.ensures t).columns (map (cells_at (c.deref-3.ensures.value t)) (c.in_ok-places.ensures.rows t)))) in
    record { each = stored-count (stored rows ps values) h domain owners c.in_ok-values.values.items each graph made numbers }

pub returns-clause-graph : goal.returns-clause-graph
returns-clause-graph g c =
    let ps = places_of c.self.inside.places.items in
    let values = c.self.inside.values.items in
    let rows = c.self.inside.rows.value in
    let h = c.in_ok-graph.graph.value in
    let domain = c.args.domain.now in
    let owners = c.args.owners.now in
    let packed = c.in_ok-packed.ensures.rows ∙ ap (map columns_at) c.in_ok-places.ensures.rows in
    let columns = packed ∙ sym (columns-kept values ps (row-values rows ps (length values) c.self.invariant)) in
    let made = subst (λ rs. IsCompleted rows rs domain owners h) columns c.in_ok-graph.ensures.graph in
    subst (λ m. IsCompleted c.args.self.rows (map columns_in c.args.self.cells) domain owners m.graph) (sym c.on_graph.ensures.matrix)
    (subst (λ a. IsCompleted a.rows (map columns_in a.cells) domain owners h) c.self.view_is made)

pub returns-clause-table : goal.returns-clause-table
returns-clause-table g c =
    let ps = places_of c.self.inside.places.items in
    let values = c.self.inside.values.items in
    let rows = c.self.inside.rows.value in
    let h = c.in_ok-graph.graph.value in
    let domain = c.args.domain.now in
    let owners = c.args.owners.now in
    let packed = c.in_ok-packed.ensures.rows ∙ ap (map columns_at) c.in_ok-places.ensures.rows in
    let columns = packed ∙ sym (columns-kept values ps (row-values rows ps (length values) c.self.invariant)) in
    let made = subst (λ rs. IsCompleted rows rs domain owners h) columns c.in_ok-graph.ensures.graph in
    let graph = subst IsGraph c.deref-2.ensures c.in_ok-values.ensures.is_graph in
    let each = (rows-are rows ps values c.self.invariant).each in
    let numbers = c.in_ok-values.ensures.numbers ∙ (λ t. joined (stored_rows (c.deref-2.ensures t).cols (c.deref-2.ensures t).columns (map (cells_at (c.deref-3.ensures.value t)) (c.in_ok-places.ensures.rows t)))) in
    ap crs_table c.on_graph.ensures.matrix
    ∙ table-completed (stored rows ps values) h domain owners c.in_ok-values.values.items each graph made numbers
    ∙ ap row_table c.self.view_is
