use Rattle.std.proofs.Common.{◌<◌, ◌++◌, ◌∷◌, [], length, take, get_or, map, is_some, Some, append_assoc, sym, ap, ◌∙◌, arith}
use Rattle.std.proofs.lemmas.List.{map-append, map_more}
use Rattle.std.proofs.lemmas.Option.{get_or_from_slice_get}
use Rattle.map_core.specs.Classes.{index_at}
use Rattle.map_core.specs.Layouts.{stands}
use Rattle.crs_matrix.specs.Completed.{row_numbers}
use Rattle.crs_matrix.specs.Rows.{number_at}
use Rattle.crs_matrix.specs.Stored.{cells_at, columns_at}
use Rattle.crs_matrix.proofs.CompletedRows.{has_number}
use Rattle.crs_matrix.proofs.Numbers.{columns-cells_at}
use Rattle.crs_matrix.proofs.complete.push_numbers.Goals as goal

pub unreachable-requires-in_default-number_near : goal.unreachable-requires-in_default-number_near
unreachable-requires-in_default-number_near g c =
    let values = c.args.values.now in
    let places = c.args.places.now in
    let col = get_or c.args.row.now c.loop-at.at 0 in
    let test = c.loop-at-test.true in
    let within : c.loop-at.at < length c.args.row.now = omega arith in
    let known = c.requires.known c.loop-at.at within in
    let at = get_or_from_slice_get c.args.cols.now col c.in-Some.gid 0 (sym c.in-Some.ensures.index) in
    let on = ap (stands c.in-Some.gid) (columns-cells_at values places c.requires.within) ∙ ap (λ k. stands k (columns_at places)) (sym at) ∙ known.1 in
    let some = has_number (cells_at values places) c.in-Some.gid on in
    let none = ap is_some (sym c.number_near.ensures.number ∙ c.in_default-number_near.is) in
    absurd (cc)

pub loop-at-preserved : goal.loop-at-preserved
loop-at-preserved g c =
    let cells = cells_at c.args.values.now c.args.places.now in
    let cols = c.args.cols.now in
    let row = c.args.row.now in
    let k = c.loop-at.at in
    let test = c.loop-at-test.true in
    let within : k < length row = omega arith in
    let col = get_or row k 0 in
    let at = get_or_from_slice_get cols col c.in-Some.gid 0 (sym c.in-Some.ensures.index) in
    let number = c.in-Some-number_near.ensures.number ∙ ap (number_at cells) (sym at) in
    ap (map (λ x. Some x)) c.in_ok-push.ensures.items
    ∙ map-append (λ x. Some x) c.loop-at.stored.items (c.in-Some-number_near.number ∷ [])
    ∙ (λ t. c.loop-at.invariant t ++ number t ∷ [])
    ∙ append_assoc (map (λ x. Some x) c.args.stored.now.items) (row_numbers cols (take k row) cells) (number_at cells (index_at cols col) ∷ [])
    ∙ ap (λ xs. map (λ x. Some x) c.args.stored.now.items ++ xs) (sym (map_more (λ c. number_at cells (index_at cols c)) row k 0 within))
