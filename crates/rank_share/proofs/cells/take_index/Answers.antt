use Rattle.std.proofs.Common.{◌<◌, ◌∷◌, [], map, sym, ap, ◌∙◌, arith}
use Rattle.mm_text.specs.Reading.{file_of}
use Rattle.rank_share.specs.CellLines.{at_index}
use Rattle.rank_share.proofs.Dense.{entry-dense, index_lines-more}
use Rattle.rank_share.proofs.cells.take_index.Goals as goal

pub loop-col-preserved : goal.loop-col-preserved
loop-col-preserved c =
    let test = c.loop-col-test.true in
    let same = c.requires.columns in
    let within : c.loop-col.col < c.args.file.now.cols = omega arith in
    c.in_ok-push.ensures.items
    ∙ index_lines-more c.args.file.now.lines.items c.args.gid c.args.row c.loop-col.col c.args.lines.now.items c.loop-col.lines.items _ c.loop-col.invariant
    (ap (map (at_index c.args.gid))
    (entry-dense (file_of c.args.file.now) c.requires.dense c.args.row c.loop-col.col c.requires.row within c.index.result.now ∙ ap (λ y. y ∷ []) (sym c.index.ensures))
    ∙ ap (λ y. y ∷ []) (sym c.at_index.ensures.line))
