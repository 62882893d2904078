use Rattle.std.proofs.Common.{arith}
use Rattle.map_core.specs.Uniform.{uniform_layout}
use Rattle.map_core.proofs.Contiguous.{consecutive, length-uniform, monotone, total}
use Rattle.map_core.proofs.Owners.{owner-below, owner-total}
use Rattle.map_core.proofs.laws.uniform_order_law.Goals as goal

pub returns : goal.returns
returns c = record {
  consecutive = consecutive c.args.ranks c.args.size;
  monotone = monotone c.args.ranks c.args.size;
  below = λ i p h.
      let within = owner-below (uniform_layout c.args.ranks c.args.size) i p h in
      let many = length-uniform c.args.ranks c.args.size in
      omega arith;
  owned = λ i h. owner-total (uniform_layout c.args.ranks c.args.size) i (total c.args.ranks c.args.size c.requires.some_rank) h;
}
