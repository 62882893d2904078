use Rattle.std.proofs.Common.{length, sym, ap, subst, ◌∙◌, arith}
use Rattle.map_core.specs.Layouts.{local_index}
use Rattle.crs_graph.specs.Ascending.{IsAscending}
use Rattle.crs_matrix.specs.Rows.{number_at, number_in, row_table}
use Rattle.crs_matrix.specs.Stored.{cells_at, columns_at, places_of, stored, AreWithin}
use Rattle.crs_matrix.proofs.Numbers.{kept-row}
use Rattle.crs_matrix.proofs.Kept.{row-at, row-values, row-within}
use Rattle.crs_matrix.proofs.fill.MatrixFill.get.Goals as goal

pub number_of-requires-clause-ascending : goal.number_of-requires-clause-ascending
number_of-requires-clause-ascending g c =
    let vs = c.self.inside.places.items in
    let lid = c.in_ok-lid.lid in
    let low = row-within c.self.inside.rows.value vs (length c.self.inside.values.items) lid c.self.invariant (omega (arith, c.in_ok-lid.ensures.within, ap length c.deref.ensures)) in
    subst (λ ps. IsAscending (columns_at ps)) (row-at vs lid c.index.result.now low ∙ ap (λ v. v.items) (sym c.index.ensures) ∙ sym c.as_slice.ensures) (c.self.invariant.ascend lid)

pub number_of-requires-clause-within : goal.number_of-requires-clause-within
number_of-requires-clause-within g c =
    let vs = c.self.inside.places.items in
    let lid = c.in_ok-lid.lid in
    let low = row-within c.self.inside.rows.value vs (length c.self.inside.values.items) lid c.self.invariant (omega (arith, c.in_ok-lid.ensures.within, ap length c.deref.ensures)) in
    subst (λ n. AreWithin n c.as_slice.result.now) (sym (ap length c.deref-2.ensures.value))
    (subst (AreWithin (length c.self.inside.values.items)) (row-at vs lid c.index.result.now low ∙ ap (λ v. v.items) (sym c.index.ensures) ∙ sym c.as_slice.ensures)
    (row-values c.self.inside.rows.value (places_of vs) (length c.self.inside.values.items) c.self.invariant lid))

pub returns : goal.returns
returns g c =
    let vs = c.self.inside.places.items in
    let lid = c.in_ok-lid.lid in
    let low = row-within c.self.inside.rows.value vs (length c.self.inside.values.items) lid c.self.invariant (omega (arith, c.in_ok-lid.ensures.within, ap length c.deref.ensures)) in
    let row = row-at vs lid c.index.result.now low ∙ ap (λ v. v.items) (sym c.index.ensures) ∙ sym c.as_slice.ensures in
    record {
      number = c.number_of.ensures.number
          ∙ (λ t. number_at (cells_at (c.deref-2.ensures.value t) (sym row t)) c.args.col)
          ∙ ap (λ cs. number_at cs c.args.col) (sym (kept-row (places_of vs) c.self.inside.values.items lid))
          ∙ ap (λ o. number_in (stored c.self.inside.rows.value (places_of vs) c.self.inside.values.items) o c.args.col) (c.in_ok-lid.ensures.place ∙ ap (λ xs. local_index xs c.args.row) c.deref.ensures)
          ∙ ap (λ n. row_table n c.args.row c.args.col) c.self.view_is;
    }
