use Rattle.std.proofs.Common.{subst}
use Rattle.byte_pool.specs.Leases.{leases}
use Rattle.rank_phases.specs.Outboxes.{AreKept}
use Rattle.rank_phases.proofs.Outboxes.{AreKept-rest, posted-first}
use Rattle.rank_phases.proofs.outbox.Outbox.take_out.Goals as goal

pub invariant_of-self : goal.invariant_of-self
invariant_of-self c =
    AreKept-rest (leases c.self.inside.pool) (leases c.give_back.new.self) c.in-Some.post c.pop_front.new.self.items c.give_back.ensures.leases
    (subst (AreKept (leases c.self.inside.pool)) c.in-Some.ensures.items c.self.invariant)

pub returns-in-Some : goal.returns-in-Some
returns-in-Some c = λ l first.
    posted-first (leases c.self.inside.pool) (leases c.give_back.new.self) c.in-Some.post c.pop_front.new.self.items c.give_back.ensures.leases
    (subst (AreKept (leases c.self.inside.pool)) c.in-Some.ensures.items c.self.invariant).lent
    c.self.inside.queue.items c.args.self.now l c.in-Some.ensures.items c.self.view_is first
