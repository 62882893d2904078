use Rattle.std.proofs.Common.{◌≡◌, None, [], length, map, replicate, get_or, sym, ap, subst, ◌∙◌, arith, rules}
use Rattle.std.specs.List.{concat, zip}
use Rattle.std.proofs.lemmas.List.{length-map, length-replicate}
use Rattle.tables.specs.Indices.{AreBelow}
use Rattle.tables.specs.Sums.{both_or_one, if_there, total}
use Rattle.crs_graph.specs.Ascending.{IsAscending}
use Rattle.crs_graph.specs.Graphs.{graph_row}
use Rattle.crs_graph.proofs.AllColumns.{ascending-ascends}
use Rattle.crs_matrix.specs.Rows.{columns_in, local_table}
use Rattle.sparse_product.specs.Dense.{number_under}
use Rattle.sparse_product.specs.Rows.{linked_cells, product_row, scaled_at, AreLinks}
use Rattle.sparse_product.proofs.DenseRows.{number_under-none}
use Rattle.sparse_product.proofs.Products.{linked-product}
use Rattle.sparse_product.proofs.WholeProduct.{built-none, built-more, whole-product, IsBuilt}
use Rattle.sparse_product.proofs.product.local_product.Goals as goal

pub loop-lid-init : goal.loop-lid-init
loop-lid-init g c =
    let width : c.len.result ≡ length c.in_ok-columns.columns.items = search rules in
    let made : c.in_ok-clone.field-0.value ≡ c.args.a.now.graph.rows = search rules in
    built-none g.S.Scalar.semiring g.met.S.Scalar.laws (length c.in_ok-columns.columns.items) c.args.a.now (local_table c.args.b.now) c.in_ok-row.row c.in_ok-product.product
    (c.in_ok-row.ensures.empty ∙ ap (λ n. replicate n None) width)
    (c.in_ok-product.ensures.empty ∙ (λ t. record { rows = made t; cells = map (λ _. []) (made t) }))

pub gather-requires-clause-known : goal.gather-requires-clause-known
gather-requires-clause-known g c =
    let ks = c.row-in-loop-lid.ensures.columns ∙ ap (λ gr. graph_row gr c.loop-lid.lid) (c.deref-in-loop-lid.ensures ∙ c.graph-in-loop-lid.ensures.graph) in
    let many : length c.in_ok-links.links ≡ length c.args.a.now.graph.cols =
    sym (length-map c.in_ok-links.links (linked_cells c.deref.result.now)) ∙ ap length c.in_ok-links.ensures.rows ∙ c.row_map.ensures.is_matrix.each ∙ ap length c.requires.columns in
    subst (λ n. AreBelow n c.row-in-loop-lid.result.now) (sym many) (subst (AreBelow (length c.args.a.now.graph.cols)) (sym ks) (c.graph.ensures.is_crs.graph.within c.loop-lid.lid))

pub gather-requires-clause-within : goal.gather-requires-clause-within
gather-requires-clause-within g c =
    let width : length c.deref.result.now ≡ length c.loop-lid.row = ap length c.deref.ensures.value ∙ sym (ap length c.loop-lid.invariant.empty ∙ length-replicate (length c.in_ok-columns.columns.items) None) in
    λ k. subst (λ n. AreLinks n (get_or c.in_ok-links.links k [])) width (c.in_ok-links.ensures.within k)

pub spill-requires-clause-ascend : goal.spill-requires-clause-ascend
spill-requires-clause-ascend g c =
    subst IsAscending (sym (c.deref-in-loop-lid-2.ensures.value ∙ c.in_ok-columns.ensures.columns)) (ascending-ascends (concat (map columns_in c.args.b.now.cells)))

pub loop-lid-preserved : goal.loop-lid-preserved
loop-lid-preserved g c =
    let R = g.S.Scalar.semiring in
    let columns = c.deref-in-loop-lid-2.result.now in
    let items = c.in_ok-columns.columns.items in
    let up = subst IsAscending (sym (c.deref-in-loop-lid-2.ensures.value ∙ c.in_ok-columns.ensures.columns)) (ascending-ascends (concat (map columns_in c.args.b.now.cells))) in
    let size = ap length c.loop-lid.invariant.empty ∙ length-replicate (length items) None in
    let ks = c.row-in-loop-lid.ensures.columns ∙ ap (λ gr. graph_row gr c.loop-lid.lid) (c.deref-in-loop-lid.ensures ∙ c.graph-in-loop-lid.ensures.graph) in
    let same = ap (λ cs. map (linked_cells cs) c.in_ok-links.links) (c.deref-in-loop-lid-2.ensures.value ∙ sym c.deref.ensures.value) ∙ c.in_ok-links.ensures.rows in
    built-more R g.met.S.Scalar.laws (length items) c.loop-lid.lid c.args.a.now (local_table c.args.b.now) c.loop-lid.row c.spill.new.self c.loop-lid.product c.spill.new.target (number_under columns c.gather.new.row)
    c.loop-lid.invariant
    c.in_ok-spill.ensures.rows
    (c.in_ok-spill.ensures.empty ∙ ap (λ n. replicate n None) (c.in_ok-gather.ensures.size ∙ size))
    c.in_ok-spill.ensures.row
    (λ j.
    c.in_ok-gather.ensures.sum columns up (ap length c.deref-in-loop-lid-2.ensures.value ∙ sym size) j
    ∙ ap (λ o. both_or_one R.plus o (total (if_there R.plus) (λ term. scaled_at R term.1 (linked_cells columns (get_or c.in_ok-links.links term.0 [])) j) (zip c.row-in-loop-lid.result.now c.row-in-loop-lid-2.result.now))) (ap (λ ds. number_under columns ds j) c.loop-lid.invariant.empty ∙ number_under-none columns (length items) j)
    ∙ linked-product R g.met.S.Scalar.laws columns c.in_ok-links.links c.args.b.now (zip c.row-in-loop-lid.result.now c.row-in-loop-lid-2.result.now) j same c.row_map.ensures.is_matrix
    ∙ (λ t. product_row R (zip (ks t) (c.row-in-loop-lid-2.ensures.numbers t)) (local_table c.args.b.now) j))

pub returns : goal.returns
returns g c =
    let rows = ap length (c.deref-3.ensures ∙ c.row_map-rows.ensures.rows ∙ ap (λ gr. gr.rows) (c.deref-2.ensures ∙ c.graph.ensures.graph)) in
    let past = c.loop-lid-test.false in
    let low = c.loop-lid.auto.lid-end in
    let end = c.len-lid-end.ensures.len in
    let done : c.loop-lid.lid ≡ length c.args.a.now.graph.rows = omega arith in
    record {
      rows = c.loop-lid.invariant.rows;
      product = λ n below. whole-product g.S.Scalar.semiring g.met.S.Scalar.laws c.args.a.now c.args.b.now c.loop-lid.product (length c.in_ok-columns.columns.items) c.loop-lid.row n c.graph.ensures.is_crs c.requires.columns below
          (subst (λ k. IsBuilt g.S.Scalar.semiring (length c.in_ok-columns.columns.items) k c.args.a.now (local_table c.args.b.now) c.loop-lid.row c.loop-lid.product) done c.loop-lid.invariant);
    }
