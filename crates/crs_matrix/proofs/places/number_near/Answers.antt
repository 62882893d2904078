use Rattle.std.proofs.Common.{get_or, length, ap, sym, ◌∙◌, arith, refl}
use Rattle.std.proofs.lemmas.Option.{slice_get_read}
use Rattle.crs_matrix.specs.Stored.{no_place}
use Rattle.crs_matrix.proofs.RowPlaces.{found-at, within-at}
use Rattle.crs_matrix.proofs.Numbers.{number-at, read}
use Rattle.crs_matrix.proofs.places.number_near.Goals as goal

pub offset_bounds-values-places : goal.offset_bounds-values-places
offset_bounds-values-places g c =
    omega (arith, within-at (length c.args.values.now) c.args.places.now c.requires.within c.args.i c.if-i-places.true)

pub bounds-values-places : goal.bounds-values-places
bounds-values-places g c = within-at (length c.args.values.now) c.args.places.now c.requires.within c.args.i c.if-i-places.true

pub returns-then-places-i : goal.returns-then-places-i
returns-then-places-i g c =
    let ps = c.args.places.now in
    let low = c.if-i-places.true in
    record {
      number = sym (number-at c.args.values.now ps c.args.col c.requires.within
          ∙ ap (read c.args.values.now) (found-at ps c.requires.ascending c.args.col c.args.i low c.if-places-i.true)
          ∙ slice_get_read c.args.values.now (length c.args.values.now) (get_or ps c.args.i no_place).at c.index-values-places.result refl (within-at (length c.args.values.now) ps c.requires.within c.args.i low) c.index-values-places.is);
    }
