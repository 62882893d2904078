use Rattle.std.proofs.Common.{◌∙◌}
use Rattle.std.proofs.lemmas.Bool.{false≢true}
use Rattle.rank_share.proofs.Rising.{stands-read}
use Rattle.rank_share.proofs.cells.part_cells.Goals as goal

pub unreachable-requires : goal.unreachable-requires
unreachable-requires c =
    false≢true (c.in-None.ensures.found ∙ stands-read c.args.map.now c.deref-gid-items.result.now c.loop-gid.gid-index 0 (c.deref-gid-items.ensures.value ∙ c.in_ok-gids.ensures.ascending) c.loop-gid-test.true)
