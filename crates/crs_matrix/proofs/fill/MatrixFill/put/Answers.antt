use Rattle.std.proofs.Common.{◌≡◌, ◌<◌, ◌≤◌, Some, length, get_or, set, [], sym, ap, subst, ◌∙◌, arith}
use Rattle.crs_graph.specs.Ascending.{IsAscending}
use Rattle.crs_matrix.specs.Rows.{RowCells}
use Rattle.crs_matrix.specs.Stored.{columns_at, no_place, places_of, stored, AreWithin, IsGap, IsStored}
use Rattle.crs_matrix.proofs.RowPlaces.{found-at, within-at}
use Rattle.crs_matrix.proofs.Kept.{made-places, made-stored, on_err, row-is, row-low, row-same, row-values, row-within}
use Rattle.crs_matrix.proofs.Clauses.{change-clause, make-clause, none-clause}
use Rattle.crs_matrix.proofs.fill.MatrixFill.put.Goals as goal

pub find_place-requires : goal.find_place-requires
find_place-requires g c =
    let known : c.args.lid < length c.self.inside.rows.value = omega (arith, c.requires.row, ap (λ (n : RowCells g.row.S.Denot). length n.rows) c.self.view_is) in
    let row = row-is c.self.inside.rows.value c.self.inside.places.items (length c.self.inside.values.items) c.args.lid c.self.invariant known c.index.result.now c.as_slice.result.now c.index.ensures c.as_slice.ensures in
    record { ascending = subst (λ ps. IsAscending (columns_at ps)) row (c.self.invariant.ascend c.args.lid) }

pub index-requires-in-Ok-2 : goal.index-requires-in-Ok-2
index-requires-in-Ok-2 g c =
    let rows = c.self.inside.rows.value in
    let vs = c.self.inside.places.items in
    let count = length c.self.inside.values.items in
    let known : c.args.lid < length rows = omega (arith, c.requires.row, ap (λ (n : RowCells g.row.S.Denot). length n.rows) c.self.view_is) in
    let row = row-is rows vs count c.args.lid c.self.invariant known c.index.result.now c.as_slice.result.now c.index.ensures c.as_slice.ensures in
    let again = row-is rows vs count c.args.lid c.self.invariant known c.index-in-Ok.result.now c.deref.result.now c.index-in-Ok.ensures c.deref.ensures in
    let low : c.in-Ok.i < length c.deref.result.now = subst (λ ps. c.in-Ok.i < length ps) (sym row ∙ again) c.in-Ok.ensures.found.0 in
    let inside = within-at count c.deref.result.now (subst (AreWithin count) again (row-values rows (places_of vs) count c.self.invariant c.args.lid)) c.in-Ok.i low in
    omega (arith, inside, c.self.inside.values.ok.0)

pub index_mut-requires : goal.index_mut-requires
index_mut-requires g c =
    let rows = c.self.inside.rows.value in
    let vs = c.self.inside.places.items in
    let count = length c.self.inside.values.items in
    let known : c.args.lid < length rows = omega (arith, c.requires.row, ap (λ (n : RowCells g.row.S.Denot). length n.rows) c.self.view_is) in
    let row = row-is rows vs count c.args.lid c.self.invariant known c.index.result.now c.as_slice.result.now c.index.ensures c.as_slice.ensures in
    let again = row-is rows vs count c.args.lid c.self.invariant known c.index-in-Ok.result.now c.deref.result.now c.index-in-Ok.ensures c.deref.ensures in
    let low : c.in-Ok.i < length c.deref.result.now = subst (λ ps. c.in-Ok.i < length ps) (sym row ∙ again) c.in-Ok.ensures.found.0 in
    let inside = within-at count c.deref.result.now (subst (AreWithin count) again (row-values rows (places_of vs) count c.self.invariant c.args.lid)) c.in-Ok.i low in
    omega (arith, inside, c.self.inside.values.ok.0)

pub returns-in-Ok-clause-place : goal.returns-in-Ok-clause-place
returns-in-Ok-clause-place g c =
    let rows = c.self.inside.rows.value in
    let vs = c.self.inside.places.items in
    let values = c.self.inside.values.items in
    let count = length values in
    let i = c.in-Ok.i in
    let known : c.args.lid < length rows = omega (arith, c.requires.row, ap (λ (n : RowCells g.row.S.Denot). length n.rows) c.self.view_is) in
    let row = row-is rows vs count c.args.lid c.self.invariant known c.index.result.now c.as_slice.result.now c.index.ensures c.as_slice.ensures in
    let again = row-is rows vs count c.args.lid c.self.invariant known c.index-in-Ok.result.now c.deref.result.now c.index-in-Ok.ensures c.deref.ensures in
    let ps = get_or (places_of vs) c.args.lid [] in
    let low : i < length ps = subst (λ qs. i < length qs) (sym row) c.in-Ok.ensures.found.0 in
    let col : (get_or ps i no_place).col ≡ c.args.col = ap (λ qs. (get_or qs i no_place).col) row ∙ c.in-Ok.ensures.found.1 in
    let here = found-at ps (c.self.invariant.ascend c.args.lid) c.args.col i low col ∙ ap (λ qs. Some (get_or qs i no_place).at) again in
    let inside = within-at count c.deref.result.now (subst (AreWithin count) again (row-values rows (places_of vs) count c.self.invariant c.args.lid)) i (subst (λ qs. i < length qs) again low) in
    change-clause g.S.Scalar.semiring rows (places_of vs) values c.self.invariant c.args.self.now c.args.lid c.args.col (get_or c.deref.result.now i no_place).at c.args.mode
    c.index-in-Ok-2.result.now c.changed.result c.args.value c.self.view_is here inside c.index-in-Ok-2.ensures c.changed.ensures.number

pub returns-in_default-clause-place : goal.returns-in_default-clause-place
returns-in_default-clause-place g c =
    let rows = c.self.inside.rows.value in
    let vs = c.self.inside.places.items in
    let values = c.self.inside.values.items in
    let known : c.args.lid < length rows = omega (arith, c.requires.row, ap (λ (n : RowCells g.row.S.Denot). length n.rows) c.self.view_is) in
    let row = row-is rows vs (length values) c.args.lid c.self.invariant known c.index.result.now c.as_slice.result.now c.index.ensures c.as_slice.ensures in
    none-clause g.S.Scalar.semiring rows (places_of vs) values c.self.invariant c.args.self.now c.args.lid c.in-Err.i c.args.col c.args.mode c.args.value c.self.view_is
    (subst (λ ps. IsGap ps c.in-Err.i c.args.col) (sym row) c.in-Err.ensures.gap.1) (sym c.in_default.is ∙ c.place.ensures.place)

pub invariant_of-self-in_err-make_place-in-Err : goal.invariant_of-self-in_err-make_place-in-Err
invariant_of-self-in_err-make_place-in-Err g c =
    let rows = c.self.inside.rows.value in
    let vs = c.self.inside.places.items in
    let values = c.self.inside.values.items in
    let known : c.args.lid < length rows = omega (arith, c.requires.row, ap (λ (n : RowCells g.row.S.Denot). length n.rows) c.self.view_is) in
    let low = row-within rows vs (length values) c.args.lid c.self.invariant known in
    let same = row-same vs c.args.lid c.index_mut-row.result.now c.make_place.new.places low (c.in_err-make_place-in-Err.ensures.same_places ∙ ap (λ v. v.items) c.index_mut-row.ensures.value) in
    subst (λ ps. IsStored rows ps (length c.make_place.new.values.items)) (sym same)
    (subst (λ xs. IsStored rows (places_of vs) (length xs)) (sym c.in_err-make_place-in-Err.ensures.same_values) c.self.invariant)

pub returns-in_err-make_place-in-Err-clause-unchanged : goal.returns-in_err-make_place-in-Err-clause-unchanged
returns-in_err-make_place-in-Err-clause-unchanged g c =
    let rows = c.self.inside.rows.value in
    let vs = c.self.inside.places.items in
    let values = c.self.inside.values.items in
    let known : c.args.lid < length rows = omega (arith, c.requires.row, ap (λ (n : RowCells g.row.S.Denot). length n.rows) c.self.view_is) in
    let low = row-within rows vs (length values) c.args.lid c.self.invariant known in
    let same = row-same vs c.args.lid c.index_mut-row.result.now c.make_place.new.places low (c.in_err-make_place-in-Err.ensures.same_places ∙ ap (λ v. v.items) c.index_mut-row.ensures.value) in
    on_err c.from_residual.result _ ((λ t. stored rows (same t) (c.in_err-make_place-in-Err.ensures.same_values t)) ∙ c.self.view_is)

pub invariant_of-self-in-Err : goal.invariant_of-self-in-Err
invariant_of-self-in-Err g c =
    let rows = c.self.inside.rows.value in
    let vs = c.self.inside.places.items in
    let values = c.self.inside.values.items in
    let known : c.args.lid < length rows = omega (arith, c.requires.row, ap (λ (n : RowCells g.row.S.Denot). length n.rows) c.self.view_is) in
    let row = row-is rows vs (length values) c.args.lid c.self.invariant known c.index.result.now c.as_slice.result.now c.index.ensures c.as_slice.ensures in
    made-stored rows vs values c.args.lid c.in-Err.i c.args.col c.in-Some.number c.self.invariant known c.index_mut-row.result.now c.make_place.new.places c.make_place.new.values.items
    (subst (λ ps. c.in-Err.i ≤ length ps) (sym row) c.in-Err.ensures.gap.0) (subst (λ ps. IsGap ps c.in-Err.i c.args.col) (sym row) c.in-Err.ensures.gap.1)
    c.index_mut-row.ensures.value c.in_ok-make_place-in-Err.ensures.places c.in_ok-make_place-in-Err.ensures.values

pub returns-in_ok-make_place-in-Err-clause-place : goal.returns-in_ok-make_place-in-Err-clause-place
returns-in_ok-make_place-in-Err-clause-place g c =
    let rows = c.self.inside.rows.value in
    let vs = c.self.inside.places.items in
    let values = c.self.inside.values.items in
    let known : c.args.lid < length rows = omega (arith, c.requires.row, ap (λ (n : RowCells g.row.S.Denot). length n.rows) c.self.view_is) in
    let row = row-is rows vs (length values) c.args.lid c.self.invariant known c.index.result.now c.as_slice.result.now c.index.ensures c.as_slice.ensures in
    make-clause g.S.Scalar.semiring rows (places_of vs) values c.self.invariant c.args.self.now c.args.lid c.in-Err.i c.args.col c.args.mode c.in-Some.number c.args.value
    (places_of (set vs c.args.lid c.make_place.new.places)) c.make_place.new.values.items c.self.view_is
    (row-low rows vs (length values) c.args.lid c.self.invariant known)
    (subst (λ ps. c.in-Err.i ≤ length ps) (sym row) c.in-Err.ensures.gap.0) (subst (λ ps. IsGap ps c.in-Err.i c.args.col) (sym row) c.in-Err.ensures.gap.1)
    c.in-Some.ensures.place
    (made-places rows vs values c.args.lid c.in-Err.i c.args.col c.self.invariant known c.index_mut-row.result.now c.make_place.new.places c.index_mut-row.ensures.value c.in_ok-make_place-in-Err.ensures.places)
    c.in_ok-make_place-in-Err.ensures.values
