use Rattle.std.proofs.Common.{◌∙◌}
use Rattle.rank_share.proofs.Dense.{filled_index-more}
use Rattle.rank_share.proofs.cells.fill_index.Goals as goal

pub loop-col-preserved : goal.loop-col-preserved
loop-col-preserved c =
    c.in_ok-push.ensures.items
    ∙ filled_index-more _ c.args.gid c.loop-col.col c.args.lines.now.items c.loop-col.lines.items c.loop-col.invariant
