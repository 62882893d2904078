use Rattle.map_core.proofs.Cyclic.{is_layout-cyclic, length-cyclic, length-rank_list-cyclic, one_to_one-cyclic, owner-cyclic, total-cyclic}
use Rattle.map_core.proofs.laws.cyclic_law.Goals as goal

pub returns : goal.returns
returns c = record {
  is_layout = is_layout-cyclic c.args.ranks c.args.size;
  one_to_one = one_to_one-cyclic c.args.ranks c.args.size;
  total = total-cyclic c.args.ranks c.args.size c.requires.some_rank;
  ranks = length-cyclic c.args.ranks c.args.size;
  counts = length-rank_list-cyclic c.args.ranks c.args.size;
  owners = λ g h. owner-cyclic c.args.ranks c.args.size g c.requires.some_rank h;
}
