use Rattle.std.proofs.Common.{◌∙◌, ap}
use Rattle.byte_pool.specs.Leases.{leases}
use Rattle.byte_pool.proofs.Pools.{leases-more}
use Rattle.byte_pool.proofs.pool.Pool.reserve.Goals as goal

pub returns-in_err-block-clause-leases : goal.returns-in_err-block-clause-leases
returns-in_err-block-clause-leases c = ap leases c.loop-i.invariant ∙ leases-more c.args.self.now c.args.size c.loop-i.i

pub returns-in_err-push-clause-leases : goal.returns-in_err-push-clause-leases
returns-in_err-push-clause-leases c = ap leases (c.in_err-push.ensures.items ∙ c.loop-i.invariant) ∙ leases-more c.args.self.now c.args.size c.loop-i.i

pub returns-clause-leases : goal.returns-clause-leases
returns-clause-leases c = ap leases c.loop-i.invariant ∙ leases-more c.args.self.now c.args.size c.loop-i.i
