use Rattle.std.proofs.Common.{◌++◌, ◌∷◌, [], ◌<◌, length, map, sym, ap, ◌∙◌, arith}
use Rattle.std.proofs.lemmas.List.{map_more, take_all}
use Rattle.crs_matrix.specs.Stored.{columns_at}
use Rattle.crs_matrix.proofs.complete.packed_columns.Goals as goal

pub loop-lid-preserved : goal.loop-lid-preserved
loop-lid-preserved c =
    let rows = c.args.rows.now in
    let low : c.loop-lid.lid < length rows = let a = c.loop-lid-test.true in let b = c.requires.each in omega arith in
    let columns = c.deref.ensures.value ∙ c.in_ok-push_columns.ensures.pushed ∙ (λ t. c.clear.ensures.items t ++ columns_at (c.row_at.ensures.row t)) in
    c.in_ok-push_row.ensures.row
    ∙ (λ t. c.loop-lid.invariant t ++ columns t ∷ [])
    ∙ sym (map_more columns_at rows c.loop-lid.lid [] low)

pub returns : goal.returns
returns c = record { rows = c.loop-lid.invariant ∙ ap (map columns_at) (take_all c.loop-lid.lid c.args.rows.now (let a = c.loop-lid-test.false in let b = c.requires.each in omega arith)) }
