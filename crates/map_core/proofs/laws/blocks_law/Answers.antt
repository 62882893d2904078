use Rattle.map_core.proofs.Blocks.{is_layout-blocks, joined-blocks, length-runs, one_to_one-blocks, owner-blocks, total-blocks}
use Rattle.map_core.proofs.laws.blocks_law.Goals as goal

pub returns : goal.returns
returns c = record {
  is_layout = is_layout-blocks c.args.counts.now;
  one_to_one = one_to_one-blocks c.args.counts.now;
  total = total-blocks c.args.counts.now;
  ranks = length-runs 0 c.args.counts.now;
  in_order = joined-blocks c.args.counts.now;
  owners = owner-blocks c.args.counts.now;
}
