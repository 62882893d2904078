use Rattle.std.proofs.Common.{◌<◌, ◌++◌, ◌∷◌, [], true, false, length, take, get_or, not, sym, ap, ◌∙◌, arith}
use Rattle.std.proofs.lemmas.List.{append-nil}
use Rattle.crs_graph.specs.ColumnMaps.{foreign}
use Rattle.crs_graph.proofs.ColumnLists.{foreign_more}
use Rattle.crs_graph.proofs.column_order.foreign_columns.Goals as goal
use Rattle.crs_graph.proofs.column_order.foreign_columns.Goals.{then-is_none+in_ok-push, else-is_none}

pub loop-place-preserved : goal.loop-place-preserved
loop-place-preserved c =
    let columns = c.args.columns.now in
    let domain = c.args.domain.now in
    let owners = c.args.owners.now in
    let place = c.loop-place.place in
    let low = c.loop-place-test.true in
    let within : place < length columns = omega arith in
    elim c.if-is_none.branch [
      | then-is_none+in_ok-push w ↦
          ap (λ v. v.items) w.others-is
          ∙ w.in_ok-push.ensures.items
          ∙ ap (λ ps. ps ++ (get_or owners place 0, get_or columns place 0) ∷ []) c.loop-place.invariant
          ∙ sym (foreign_more domain columns owners place false within c.requires.each (sym c.local_of.ensures.found ∙ c.is_none.ensures ∙ ap not w.if-is_none.true))
      | else-is_none w ↦
          ap (λ v. v.items) w.others-is
          ∙ c.loop-place.invariant
          ∙ sym (append-nil (foreign domain (take place columns) (take place owners)))
          ∙ sym (foreign_more domain columns owners place true within c.requires.each (sym c.local_of.ensures.found ∙ c.is_none.ensures ∙ ap not w.if-is_none.false))
    ]
