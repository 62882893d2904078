use Rattle.std.proofs.Common.{ℕ, ◌<◌, ◌++◌, ◌∷◌, [], length, get_or, map, sym, ap, subst, ◌∙◌, arith}
use Rattle.std.proofs.lemmas.List.{map-append, take_more}
use Rattle.sparse_product.specs.Rows.{linked_cells, AreLinks}
use Rattle.sparse_product.proofs.Links.{AreLinks-rows}
use Rattle.sparse_product.proofs.linked_rows.link_rows.Goals as goal

pub loop-k-preserved : goal.loop-k-preserved
loop-k-preserved g c =
    let columns = c.args.columns.now in
    let low = c.loop-k-test.true in
    let many = c.len-k-end.ensures.len in
    let inside : c.loop-k.k < length c.args.b.now.cells = omega (arith, ap length c.deref.ensures, ap length c.row_map.ensures.rows, c.row_map.ensures.is_matrix.each) in
    record {
      cells = ap (map (linked_cells columns)) c.in_ok-push_row.ensures.row
          ∙ map-append (linked_cells columns) c.loop-k.rows (c.deref-in-loop-k.result.now ∷ [])
          ∙ (λ t. c.loop-k.invariant.cells t ++ (ap (linked_cells columns) c.deref-in-loop-k.ensures.value ∙ c.in_ok-link_row.ensures.cells) t ∷ [])
          ∙ sym (take_more c.args.b.now.cells c.loop-k.k [] inside);
      within = subst (λ rs. (m : ℕ) → AreLinks (length columns) (get_or rs m [])) (sym c.in_ok-push_row.ensures.row)
          (AreLinks-rows (length columns) c.loop-k.rows c.deref-in-loop-k.result.now c.loop-k.invariant.within
          (subst (AreLinks (length columns)) (sym c.deref-in-loop-k.ensures.value) c.in_ok-link_row.ensures.within));
    }
