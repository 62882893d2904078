use Rattle.std.proofs.Common.{get_or, length, ap, sym, ◌∙◌, arith, refl}
use Rattle.std.proofs.lemmas.Option.{slice_get_read}
use Rattle.crs_matrix.specs.Stored.{no_place}
use Rattle.crs_matrix.proofs.RowPlaces.{found-at, gap-none, within-at}
use Rattle.crs_matrix.proofs.Numbers.{number-at, read}
use Rattle.crs_matrix.proofs.places.number_of.Goals as goal

pub offset_bounds-values-places : goal.offset_bounds-values-places
offset_bounds-values-places g c =
    omega (arith, within-at (length c.args.values.now) c.args.places.now c.requires.within c.in-Ok.i c.in-Ok.ensures.found.0)

pub bounds-values-places : goal.bounds-values-places
bounds-values-places g c = within-at (length c.args.values.now) c.args.places.now c.requires.within c.in-Ok.i c.in-Ok.ensures.found.0

pub returns-in-Ok : goal.returns-in-Ok
returns-in-Ok g c =
    let ps = c.args.places.now in
    let found = c.in-Ok.ensures.found in
    record {
      number = sym (number-at c.args.values.now ps c.args.col c.requires.within
          ∙ ap (read c.args.values.now) (found-at ps c.requires.ascending c.args.col c.in-Ok.i found.0 found.1)
          ∙ slice_get_read c.args.values.now (length c.args.values.now) (get_or ps c.in-Ok.i no_place).at c.index-values-places.result refl (within-at (length c.args.values.now) ps c.requires.within c.in-Ok.i found.0) c.index-values-places.is);
    }

pub returns-in-Err : goal.returns-in-Err
returns-in-Err g c =
    let ps = c.args.places.now in
    record {
      number = sym (number-at c.args.values.now ps c.args.col c.requires.within
          ∙ ap (read c.args.values.now) (gap-none ps c.in-Err.field-0 c.args.col c.in-Err.ensures.gap.1));
    }
