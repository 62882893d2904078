use Rattle.map_core.proofs.Contiguous.{is_layout-uniform, joined, length-rank_list-uniform, length-uniform, one_to_one, owner-uniform, total}
use Rattle.map_core.proofs.laws.uniform_law.Goals as goal

pub returns : goal.returns
returns c = record {
  is_layout = is_layout-uniform c.args.ranks c.args.size c.requires.some_rank;
  one_to_one = one_to_one c.args.ranks c.args.size c.requires.some_rank;
  total = total c.args.ranks c.args.size c.requires.some_rank;
  ranks = length-uniform c.args.ranks c.args.size;
  counts = length-rank_list-uniform c.args.ranks c.args.size;
  owners = λ g p known low high. owner-uniform c.args.ranks c.args.size g p known low high;
  in_order = joined c.args.ranks c.args.size c.requires.some_rank;
}
