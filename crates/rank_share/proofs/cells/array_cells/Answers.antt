use Rattle.std.proofs.Common.{◌∙◌}
use Rattle.rank_share.proofs.Rising.{stands-read}
use Rattle.rank_share.proofs.cells.array_cells.Goals as goal

pub take_index-requires-clause-row : goal.take_index-requires-clause-row
take_index-requires-clause-row c =
    c.requires.rows _ (stands-read c.args.map.now c.deref-gid-items.result.now c.loop-gid.gid-index 0 (c.deref-gid-items.ensures.value ∙ c.in_ok-gids.ensures.ascending) c.loop-gid-test.true)
