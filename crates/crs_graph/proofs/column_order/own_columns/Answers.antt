use Rattle.std.proofs.Common.{◌≡◌, ◌<◌, ◌++◌, ◌∷◌, [], cond, length, take, get_or, sym, ap, ◌∙◌, arith}
use Rattle.std.specs.List.{filter}
use Rattle.std.proofs.lemmas.List.{append-nil}
use Rattle.std.proofs.lemmas.List.Elements.{filter_more}
use Rattle.std.proofs.lemmas.Option.{get_or_from_slice_get}
use Rattle.map_core.specs.Layouts.{stands}
use Rattle.crs_graph.proofs.column_order.own_columns.Goals as goal
use Rattle.crs_graph.proofs.column_order.own_columns.Goals.{then-has_column+in_ok-push, else-has_column}

pub loop-lid-preserved : goal.loop-lid-preserved
loop-lid-preserved c =
    let columns = c.args.columns.now in
    let domain = c.args.domain.now in
    let lid = c.loop-lid.lid in
    let gid = c.unwrap-gid.result in
    let many = c.len-lid-end.ensures.len in
    let low = c.loop-lid-test.true in
    let within : lid < length domain = omega arith in
    let index : gid ≡ get_or domain lid 0 = sym (get_or_from_slice_get domain lid gid 0 (sym c.global_of.ensures.index ∙ c.unwrap-gid.ensures)) in
    elim c.if-has_column.branch [
      | then-has_column+in_ok-push w ↦
          ap (λ v. v.items) w.own-is
          ∙ w.in_ok-push.ensures.items
          ∙ (λ t. c.loop-lid.invariant t ++ index t ∷ [])
          ∙ ap (λ b. filter (λ g. stands g columns) (take lid domain) ++ cond b (get_or domain lid 0 ∷ []) []) (sym w.if-has_column.true ∙ c.has_column.ensures.has ∙ ap (λ g. stands g columns) index)
          ∙ sym (filter_more (λ g. stands g columns) domain lid 0 within)
      | else-has_column w ↦
          ap (λ v. v.items) w.own-is
          ∙ c.loop-lid.invariant
          ∙ sym (append-nil (filter (λ g. stands g columns) (take lid domain)))
          ∙ ap (λ b. filter (λ g. stands g columns) (take lid domain) ++ cond b (get_or domain lid 0 ∷ []) []) (sym w.if-has_column.false ∙ c.has_column.ensures.has ∙ ap (λ g. stands g columns) index)
          ∙ sym (filter_more (λ g. stands g columns) domain lid 0 within)
    ]
