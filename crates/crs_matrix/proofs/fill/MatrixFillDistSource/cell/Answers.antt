use Rattle.std.proofs.Common.{◌<◌, length, ap, subst, arith}
use Rattle.crs_matrix.specs.Stored.{places_of, AreWithin}
use Rattle.crs_matrix.proofs.RowPlaces.{within-at}
use Rattle.crs_matrix.proofs.Kept.{row-is, row-values, row-within}
use Rattle.crs_matrix.proofs.Clauses.{cell-clause, count-clause, stored-known}
use Rattle.crs_matrix.proofs.fill.MatrixFillDistSource.cell.Goals as goal

pub index-requires : goal.index-requires
index-requires g c =
    let row = stored-known c.self.inside.rows.value (places_of c.self.inside.places.items) c.self.inside.values.items c.self.invariant c.args.self.now c.self.view_is c.args.lid c.requires.known in
    omega (arith, c.self.inside.places.ok.0, row-within c.self.inside.rows.value c.self.inside.places.items (length c.self.inside.values.items) c.args.lid c.self.invariant row)

pub bounds-deref-at : goal.bounds-deref-at
bounds-deref-at g c =
    let row = stored-known c.self.inside.rows.value (places_of c.self.inside.places.items) c.self.inside.values.items c.self.invariant c.args.self.now c.self.view_is c.args.lid c.requires.known in
    omega (
      arith,
      c.requires.within,
      ap length (row-is c.self.inside.rows.value c.self.inside.places.items (length c.self.inside.values.items) c.args.lid c.self.invariant row c.index.result.now c.deref.result.now c.index.ensures c.deref.ensures),
      count-clause c.self.inside.rows.value (places_of c.self.inside.places.items) c.self.inside.values.items c.self.invariant c.args.self.now c.self.view_is c.args.lid c.requires.known,
    )

pub offset_bounds-deref-at : goal.offset_bounds-deref-at
offset_bounds-deref-at g c =
    let row = stored-known c.self.inside.rows.value (places_of c.self.inside.places.items) c.self.inside.values.items c.self.invariant c.args.self.now c.self.view_is c.args.lid c.requires.known in
    omega (
      arith,
      c.requires.within,
      c.deref.type_inv.1,
      ap length (row-is c.self.inside.rows.value c.self.inside.places.items (length c.self.inside.values.items) c.args.lid c.self.invariant row c.index.result.now c.deref.result.now c.index.ensures c.deref.ensures),
      count-clause c.self.inside.rows.value (places_of c.self.inside.places.items) c.self.inside.values.items c.self.invariant c.args.self.now c.self.view_is c.args.lid c.requires.known,
    )

pub index-requires-2 : goal.index-requires-2
index-requires-2 g c =
    let rows = c.self.inside.rows.value in
    let vs = c.self.inside.places.items in
    let values = c.self.inside.values.items in
    let row = stored-known rows (places_of vs) values c.self.invariant c.args.self.now c.self.view_is c.args.lid c.requires.known in
    let places = row-is rows vs (length values) c.args.lid c.self.invariant row c.index.result.now c.deref.result.now c.index.ensures c.deref.ensures in
    let low : c.args.at < length c.deref.result.now = omega (arith, c.requires.within, ap length places, count-clause rows (places_of vs) values c.self.invariant c.args.self.now c.self.view_is c.args.lid c.requires.known) in
    omega (arith, c.self.inside.values.ok.0, within-at (length values) c.deref.result.now (subst (AreWithin (length values)) places (row-values rows (places_of vs) (length values) c.self.invariant c.args.lid)) c.args.at low)

pub returns : goal.returns
returns g c =
    let rows = c.self.inside.rows.value in
    let vs = c.self.inside.places.items in
    let values = c.self.inside.values.items in
    let row = stored-known rows (places_of vs) values c.self.invariant c.args.self.now c.self.view_is c.args.lid c.requires.known in
    let places = row-is rows vs (length values) c.args.lid c.self.invariant row c.index.result.now c.deref.result.now c.index.ensures c.deref.ensures in
    let low : c.args.at < length c.deref.result.now = omega (arith, c.requires.within, ap length places, count-clause rows (places_of vs) values c.self.invariant c.args.self.now c.self.view_is c.args.lid c.requires.known) in
    record { cell = cell-clause rows (places_of vs) values c.self.invariant c.args.self.now c.self.view_is c.args.lid c.args.at c.deref.result.now c.index-2.result.now c.requires.known places low c.index-2.ensures }
