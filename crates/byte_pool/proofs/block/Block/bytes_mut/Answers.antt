use Rattle.std.proofs.Common.{rules, refl}
use Rattle.byte_pool.proofs.Written.{view-written}
use Rattle.byte_pool.proofs.block.Block.bytes_mut.Goals as goal

pub returns : goal.returns
returns c = (
  (refl, λ w. view-written c.self.inside.bytes c.self.inside.is_lent c.self.inside.len w c.args.self.now c.self.invariant c.self.view_is),
  record { writes_back = tt; value = search rules },
)
