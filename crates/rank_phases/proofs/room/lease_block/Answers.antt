use Rattle.std.proofs.Common.{ap, sym, ◌∙◌}
use Rattle.byte_pool.specs.Leases.{Leases}
use Rattle.rank_phases.proofs.room.lease_block.Goals as goal

pub returns-clause-fresh : goal.returns-clause-fresh
returns-clause-fresh c = ap (λ (live : Leases). live c.lease.result) (sym c.in_ok-make_room.ensures.same) ∙ c.lease.ensures.fresh
